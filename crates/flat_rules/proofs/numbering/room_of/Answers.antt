use Rattle.std.proofs.Common.{◌<◌, arith, subst, ◌∙◌}
use Rattle.grammar_model.specs.Grammar.{rule_at, level_of}
use Rattle.std.proofs.lemmas.List.{get_or_default}
use Rattle.flat_rules.proofs.numbering.room_of.Goals as goal

pub rule-requires : goal.rule-requires
rule-requires c = c.requires _ (c.loop-i.i-index, c.loop-i-test.true, get_or_default c.args.row.now c.loop-i.i-index _ 0 c.loop-i-test.true)

pub returns-clause-bound : goal.returns-clause-bound
returns-clause-bound c = λ i (k, lt, e).
    let h = c.loop-i.invariant.0 k (omega (arith, lt, c.loop-i-test.false)) in
    subst (λ z. level_of (rule_at c.args.w.now z) < c.loop-i.room) (get_or_default c.args.row.now k 0 i lt ∙ e) h
