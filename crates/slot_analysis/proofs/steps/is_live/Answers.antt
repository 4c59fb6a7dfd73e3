use Rattle.std.proofs.Common.{arith, ◌<◌, subst, sym, ◌∙◌, inl, inr, refl, true≢false}
use Rattle.grammar_model.specs.Grammar.{rule_at, child_slot}
use Rattle.grammar_model.specs.Analysis.{IsProductive}
use Rattle.slot_analysis.specs.Slots.{needed_of}
use Rattle.horn_clauses.proofs.Search.{same_or_below}
use Rattle.slot_analysis.proofs.StepLemmas.{productive_found, all_needed, needed_small}
use Rattle.slot_analysis.proofs.steps.is_live.Goals as goal

pub child_number-requires-clause-part : goal.child_number-requires-clause-part
child_number-requires-clause-part c = needed_small (rule_at c.args.w.now c.args.i) c.loop-k.k (omega (arith, c.loop-k-test.true, c.needed_count-k-end.ensures))

pub returns-then-not-has : goal.returns-then-not-has
returns-then-not-has c =
    let lt : c.loop-k.k < needed_of (rule_at c.args.w.now c.args.i) = omega (arith, c.loop-k-test.true, c.needed_count-k-end.ensures) in (
      λ t. absurd (true≢false (sym t)),
      λ live. absurd (true≢false (sym ((productive_found c.args.w.now c.args.bases.now c.args.productive.now c.args.i c.loop-k.k c.child_number.result c.has.result c.known.ensures c.requires.numbering c.requires.rule
          (needed_small (rule_at c.args.w.now c.args.i) c.loop-k.k lt) c.requires.productive c.child_number.ensures c.has.ensures).1 ((all_needed c.args.w.now (rule_at c.args.w.now c.args.i)).1 live c.loop-k.k lt)) ∙ c.if-not-has.true)),
    )

pub loop-k-preserved : goal.loop-k-preserved
loop-k-preserved c = λ j lt. elim (same_or_below j c.loop-k.k lt) [
  | inl before ↦ c.loop-k.invariant j before
  | inr same ↦ subst (λ j. IsProductive c.args.w.now (child_slot (rule_at c.args.w.now c.args.i) j)) (sym same)
      ((productive_found c.args.w.now c.args.bases.now c.args.productive.now c.args.i c.loop-k.k c.child_number.result c.has.result c.known.ensures c.requires.numbering c.requires.rule
      (needed_small (rule_at c.args.w.now c.args.i) c.loop-k.k (omega (arith, c.loop-k-test.true, c.needed_count-k-end.ensures))) c.requires.productive c.child_number.ensures c.has.ensures).0 c.if-not-has.false)
]

pub returns : goal.returns
returns c = (λ t. (all_needed c.args.w.now (rule_at c.args.w.now c.args.i)).0 (λ j lt. c.loop-k.invariant j (omega (arith, lt, c.loop-k-test.false, c.needed_count-k-end.ensures))), λ live. refl)
