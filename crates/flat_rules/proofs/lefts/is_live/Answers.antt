use Rattle.std.proofs.Common.{arith, ◌<◌, subst, sym, ◌∙◌, inl, inr, refl, true≢false, ap}
use Rattle.grammar_model.specs.Grammar.{Grammar, rule_at, child_slot}
use Rattle.grammar_model.specs.Analysis.{IsProductive}
use Rattle.slot_analysis.specs.Slots.{needed_of}
use Rattle.horn_clauses.proofs.Search.{same_or_below}
use Rattle.slot_analysis.proofs.StepLemmas.{all_needed}
use Rattle.flat_rules.proofs.lefts.is_live.Goals as goal

pub returns-then-not-is_child_productive : goal.returns-then-not-is_child_productive
returns-then-not-is_child_productive c =
    let same = ap needed_of c.rule.ensures.is ∙ ap (λ (g : Grammar). needed_of (rule_at g c.args.i)) c.written.ensures in
    let lt : c.loop-k.k < needed_of (rule_at c.args.c.now c.args.i) = omega (arith, c.loop-k-test.true, c.needed_count-k-end.ensures, same) in (
      λ t. absurd (true≢false (sym t)),
      λ live. absurd (true≢false (sym (c.is_child_productive.ensures.1 ((all_needed c.args.c.now (rule_at c.args.c.now c.args.i)).1 live c.loop-k.k lt)) ∙ c.if-not-is_child_productive.true)),
    )

pub loop-k-preserved : goal.loop-k-preserved
loop-k-preserved c = λ j lt. elim (same_or_below j c.loop-k.k lt) [
  | inl before ↦ c.loop-k.invariant j before
  | inr same ↦ subst (λ j. IsProductive c.args.c.now (child_slot (rule_at c.args.c.now c.args.i) j)) (sym same) (c.is_child_productive.ensures.0 c.if-not-is_child_productive.false)
]

pub returns : goal.returns
returns c =
    let same = ap needed_of c.rule.ensures.is ∙ ap (λ (g : Grammar). needed_of (rule_at g c.args.i)) c.written.ensures in
    (λ t. (all_needed c.args.c.now (rule_at c.args.c.now c.args.i)).0 (λ j lt. c.loop-k.invariant j (omega (arith, lt, c.loop-k-test.false, c.needed_count-k-end.ensures, same))), λ live. refl)
