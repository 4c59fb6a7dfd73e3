use Rattle.std.proofs.lemmas.Result.{on_ok_weaker}
use Rattle.slot_analysis.proofs.StepLemmas.{joined}
use Rattle.slot_analysis.proofs.steps.push_steps.Goals as goal

pub returns : goal.returns
returns c =
    on_ok_weaker c.push_parts.result
    (joined c.args.w.now c.args.bases.now c.args.total c.args.clauses.now c.push_starts.new.clauses c.push_uses.new.clauses c.push_nexts.new.clauses c.push_parts.new.clauses c.requires.empty c.in_ok-push_starts.ensures c.in_ok-push_uses.ensures c.in_ok-push_nexts.ensures)
    c.push_parts.ensures
