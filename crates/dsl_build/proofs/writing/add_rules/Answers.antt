use Rattle.std.proofs.Common.{◌≡◌, ap, length, sym, subst, arith}
use Rattle.std.proofs.lemmas.Iterator.Adapters.{YieldsList-from_vec}
use Rattle.std.proofs.lemmas.Iterator.Consumers.{YieldsList-turn}
use Rattle.grammar_model.specs.Grammar.{Grammar}
use Rattle.grammar_core.specs.Written.{rule_of}
use Rattle.dsl_build.specs.Ready.{IsGood}
use Rattle.dsl_build.proofs.Granting.{all_mapped_get}
use Rattle.dsl_build.proofs.writing.add_rules.Goals as goal

pub add_rule-requires-clause-good : goal.add_rule-requires-clause-good
add_rule-requires-clause-good c =
    let rules = c.args.rules.items in
    let n = length c.args.w.now.names in
    let gives = c.into_iter-rule-iterator.ensures.into_iter_gives in
    let t = YieldsList-turn (YieldsList-from_vec rules gives.0 (omega (arith, gives.1, c.args.rules.ok.0))) c.loop-rule.yielded c.loop-rule.rule-iterator c.loop-rule.yielded_by c.next.result c.next.new.self c.in-Some.rule c.in-Some.is c.next.ensures.steps in
    let same : length c.loop-rule.w.names ≡ n = ap (λ (g : Grammar). length g.names) c.loop-rule.invariant in
    subst (λ k. IsGood k (rule_of c.in-Some.rule)) (sym same) (all_mapped_get (IsGood n) rule_of rules (length c.loop-rule.yielded) c.in-Some.rule c.requires.good t.0 t.1)
