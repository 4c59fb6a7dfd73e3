use Rattle.std.proofs.Common.{inl, inr, subst, sym}
use Rattle.grammar_model.specs.Grammar.{rule_at, child_slot}
use Rattle.grammar_model.specs.Analysis.{IsNullable}
use Rattle.horn_clauses.proofs.Search.{same_or_below}
use Rattle.grammar_check.proofs.links.first_solid.Goals as goal

pub loop-k-preserved : goal.loop-k-preserved
loop-k-preserved c = λ j lt. elim (same_or_below j c.loop-k.k lt) [
  | inl before ↦ c.loop-k.invariant j before
  | inr same ↦ subst (λ j. IsNullable c.args.w.now (child_slot (rule_at c.args.w.now c.args.i) j)) (sym same) (c.is_part_nullable.ensures.0 c.if-not-is_part_nullable.false)
]
