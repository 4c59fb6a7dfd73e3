use Rattle.std.proofs.Common.{arith, ◌≡◌, ◌+◌, length, subst, sym, ◌∙◌, true≢false, List}
use Rattle.grammar_model.specs.Grammar.{rule_at, slot_count}
use Rattle.horn_clauses.specs.Least.{Clause}
use Rattle.slot_analysis.specs.Steps.{HasMore, IsOfPart, IsOfParts}
use Rattle.slot_analysis.proofs.More.{more_none, more_same, more_by, parts_split, parts_skip}
use Rattle.slot_analysis.proofs.steps.push_parts.Goals as goal
use Rattle.slot_analysis.proofs.steps.push_parts.Goals.{then-is_live+in_ok-push_part, else-is_live}

pub loop-i-init : goal.loop-i-init
loop-i-init c = more_none c.args.clauses.now (IsOfParts c.args.w.now c.args.bases.now c.args.total 0) (λ d (k, lt, l, e). omega (arith, lt))

pub loop-i-preserved : goal.loop-i-preserved
loop-i-preserved c = elim c.if-is_live.branch [
  | then-is_live+in_ok-push_part w ↦ subst (λ (v : List Clause). HasMore c.args.clauses.now v (IsOfParts c.args.w.now c.args.bases.now c.args.total (c.loop-i.i + 1))) (sym w.clauses-is)
      (more_by c.args.clauses.now c.loop-i.clauses w.push_part.new.clauses (IsOfParts c.args.w.now c.args.bases.now c.args.total c.loop-i.i)
      (IsOfPart c.args.w.now c.args.bases.now c.args.total c.loop-i.i (slot_count (rule_at c.args.w.now c.loop-i.i))) (IsOfParts c.args.w.now c.args.bases.now c.args.total (c.loop-i.i + 1))
      (λ d. parts_split c.args.w.now c.args.bases.now c.args.total c.loop-i.i d (c.is_live.ensures.0 w.if-is_live.true)) c.loop-i.invariant w.in_ok-push_part.ensures)
  | else-is_live w ↦ subst (λ (v : List Clause). HasMore c.args.clauses.now v (IsOfParts c.args.w.now c.args.bases.now c.args.total (c.loop-i.i + 1))) (sym w.clauses-is)
      (more_same c.args.clauses.now c.loop-i.clauses (IsOfParts c.args.w.now c.args.bases.now c.args.total c.loop-i.i) (IsOfParts c.args.w.now c.args.bases.now c.args.total (c.loop-i.i + 1))
      (λ d. parts_skip c.args.w.now c.args.bases.now c.args.total c.loop-i.i d (λ live. true≢false (sym (c.is_live.ensures.1 live) ∙ w.if-is_live.false))) c.loop-i.invariant)
]

pub returns : goal.returns
returns c = subst (λ n. HasMore c.args.clauses.now c.loop-i.clauses (IsOfParts c.args.w.now c.args.bases.now c.args.total n)) (let z : c.loop-i.i ≡ length c.args.w.now.rules = omega (arith, c.loop-i-test.false, c.loop-i.auto.i-end, c.rule_count-i-end.ensures.count) in z) c.loop-i.invariant
