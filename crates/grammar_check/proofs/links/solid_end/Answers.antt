use Rattle.std.proofs.Common.{arith, ◌≡◌, ◌-◌, inl, inr, subst, sym, ◌∙◌, true≢false}
use Rattle.grammar_model.specs.Grammar.{rule_at, child_slot}
use Rattle.grammar_model.specs.Analysis.{IsNullable}
use Rattle.horn_clauses.proofs.Search.{same_or_below}
use Rattle.grammar_check.proofs.links.solid_end.Goals as goal
use Rattle.grammar_check.proofs.links.solid_end.Goals.{then-not-is_part_nullable, else-not-is_part_nullable}

pub loop-k-preserved : goal.loop-k-preserved
loop-k-preserved c = elim c.if-not-is_part_nullable.branch [
  | then-not-is_part_nullable w ↦ record {
    within = omega (arith, w.end-is);
    behind = λ j from below. absurd (omega (arith, w.end-is, from, below));
    last = λ some h. true≢false (sym (c.is_part_nullable.ensures.1 (subst (λ j. IsNullable c.args.w.now (child_slot (rule_at c.args.w.now c.args.i) j)) (let z : c.if-not-is_part_nullable.end - 1 ≡ c.loop-k.k = omega (arith, w.end-is) in z) h)) ∙ w.if-not-is_part_nullable.true);
  }
  | else-not-is_part_nullable w ↦ record {
    within = omega (arith, w.end-is, c.loop-k.invariant.within);
    behind = λ j from below. elim (same_or_below j c.loop-k.k below) [
      | inl before ↦ c.loop-k.invariant.behind j (omega (arith, from, w.end-is)) before
      | inr same ↦ subst (λ j. IsNullable c.args.w.now (child_slot (rule_at c.args.w.now c.args.i) j)) (sym same) (c.is_part_nullable.ensures.0 w.if-not-is_part_nullable.false)
    ];
    last = λ some h. c.loop-k.invariant.last (omega (arith, some, w.end-is)) (subst (λ n. IsNullable c.args.w.now (child_slot (rule_at c.args.w.now c.args.i) (n - 1))) w.end-is h);
  }
]
