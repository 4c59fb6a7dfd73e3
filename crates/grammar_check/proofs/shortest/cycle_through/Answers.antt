use Rattle.std.proofs.lemmas.Result.{IfOk-weaker}
use Rattle.grammar_check.proofs.shortest.cycle_through.Goals as goal

pub returns-clause-none : goal.returns-clause-none
returns-clause-none c = IfOk-weaker c.cycle_within.result _ _ (λ r here none m w. here none (c.in_ok-found.ensures.all m c.args.to w)) c.cycle_within.ensures.none
