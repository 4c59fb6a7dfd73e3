use Rattle.std.proofs.Common.{arith, ◌≡◌, ◌+◌, List, subst, sym, ◌∙◌, true≢false}
use Rattle.grammar_model.specs.Grammar.{rule_at, child_slot, slot_count}
use Rattle.horn_clauses.specs.Least.{Clause}
use Rattle.slot_analysis.specs.Slots.{number}
use Rattle.slot_analysis.specs.Steps.{unit_clause, HasMore, head_of, IsOfPart}
use Rattle.slot_analysis.proofs.StepLemmas.{productive_found, head_small}
use Rattle.slot_analysis.proofs.More.{more_none, more_same, more_by, part_split, part_skip}
use Rattle.slot_analysis.proofs.steps.push_part.Goals as goal
use Rattle.slot_analysis.proofs.steps.push_part.Goals.{then-has+in_ok-push_unit, else-has}

pub overflow_add-total : goal.overflow_add-total
overflow_add-total c = let h = head_small c.args.w.now c.args.bases.now c.args.i c.known.ensures c.requires.numbering c.requires.rule in omega (arith, h, c.head_number-head.ensures, c.requires.total, c.requires.small)

pub loop-k-init : goal.loop-k-init
loop-k-init c = more_none c.args.clauses.now (IsOfPart c.args.w.now c.args.bases.now c.args.total c.args.i 0) (λ d (k, lt, p, e). omega (arith, lt))

pub loop-k-preserved : goal.loop-k-preserved
loop-k-preserved c =
    let told = productive_found c.args.w.now c.args.bases.now c.args.productive.now c.args.i c.loop-k.k c.child_number-child.result c.has.result c.known.ensures c.requires.numbering c.requires.rule
    (omega (arith, c.loop-k-test.true, c.part_count-k-end.ensures)) c.requires.productive c.child_number-child.ensures c.has.ensures in
    elim c.if-has.branch [
      | then-has+in_ok-push_unit w ↦ subst (λ (v : List Clause). HasMore c.args.clauses.now v (IsOfPart c.args.w.now c.args.bases.now c.args.total c.args.i (c.loop-k.k + 1))) (sym w.clauses-is)
          (more_by c.args.clauses.now c.loop-k.clauses w.push_unit.new.clauses (IsOfPart c.args.w.now c.args.bases.now c.args.total c.args.i c.loop-k.k)
          (λ d. d ≡ unit_clause (number c.args.bases.now (child_slot (rule_at c.args.w.now c.args.i) c.loop-k.k)) (c.args.total + head_of c.args.w.now c.args.bases.now c.args.i)) (IsOfPart c.args.w.now c.args.bases.now c.args.total c.args.i (c.loop-k.k + 1))
          (λ d. part_split c.args.w.now c.args.bases.now c.args.total c.args.i c.loop-k.k d (told.0 w.if-has.true)) c.loop-k.invariant
          (subst (λ x. HasMore c.loop-k.clauses w.push_unit.new.clauses (λ d. d ≡ unit_clause x (c.args.total + head_of c.args.w.now c.args.bases.now c.args.i))) c.child_number-child.ensures
          (subst (λ h. HasMore c.loop-k.clauses w.push_unit.new.clauses (λ d. d ≡ unit_clause c.child_number-child.result (c.args.total + h))) c.head_number-head.ensures w.in_ok-push_unit.ensures)))
      | else-has w ↦ subst (λ (v : List Clause). HasMore c.args.clauses.now v (IsOfPart c.args.w.now c.args.bases.now c.args.total c.args.i (c.loop-k.k + 1))) (sym w.clauses-is)
          (more_same c.args.clauses.now c.loop-k.clauses (IsOfPart c.args.w.now c.args.bases.now c.args.total c.args.i c.loop-k.k) (IsOfPart c.args.w.now c.args.bases.now c.args.total c.args.i (c.loop-k.k + 1))
          (λ d. part_skip c.args.w.now c.args.bases.now c.args.total c.args.i c.loop-k.k d (λ p. true≢false (sym (told.1 p) ∙ w.if-has.false))) c.loop-k.invariant)
    ]

pub returns : goal.returns
returns c = subst (λ n. HasMore c.args.clauses.now c.loop-k.clauses (IsOfPart c.args.w.now c.args.bases.now c.args.total c.args.i n)) (let z : c.loop-k.k ≡ slot_count (rule_at c.args.w.now c.args.i) = omega (arith, c.loop-k-test.false, c.loop-k.auto.k-end, c.part_count-k-end.ensures) in z) c.loop-k.invariant
