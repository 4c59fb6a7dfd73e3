use Rattle.std.proofs.Common.{sym, subst, slice_index, add-one, ◌+◌, List}
use Rattle.horn_clauses.specs.Least.{Clause}
use Rattle.slot_analysis.specs.Slots.{HasFacts, HasTerminals}
use Rattle.slot_analysis.proofs.Pushing.{terminals_none, terminals_more, terminals_skip}
use Rattle.slot_analysis.proofs.clauses.push_terminals.Goals as goal
use Rattle.slot_analysis.proofs.clauses.push_terminals.Goals.{then-not-lefts-s+in_ok-push_facts, else-not-lefts-s}

pub loop-s-init : goal.loop-s-init
loop-s-init c = terminals_none c.args.bases.now c.args.clauses.now c.args.lefts.now

pub loop-s-preserved : goal.loop-s-preserved
loop-s-preserved c = elim c.if-not-lefts-s.branch [
  | then-not-lefts-s+in_ok-push_facts w ↦ subst (λ (v : List Clause). HasTerminals c.args.bases.now c.args.lefts.now (c.loop-s.s + 1) c.args.clauses.now v) (sym w.clauses-is)
      (terminals_more c.args.bases.now c.args.clauses.now c.args.lefts.now c.loop-s.clauses w.push_facts.new.clauses c.loop-s.s w.if-not-lefts-s.true c.loop-s.invariant
      (subst (λ n. HasFacts c.loop-s.clauses w.push_facts.new.clauses (slice_index c.args.bases.now c.loop-s.s) (slice_index c.args.bases.now n)) (add-one c.loop-s.s) w.in_ok-push_facts.ensures))
  | else-not-lefts-s w ↦ subst (λ (v : List Clause). HasTerminals c.args.bases.now c.args.lefts.now (c.loop-s.s + 1) c.args.clauses.now v) (sym w.clauses-is)
      (terminals_skip c.args.bases.now c.args.clauses.now c.args.lefts.now c.loop-s.clauses c.loop-s.s w.if-not-lefts-s.false c.loop-s.invariant)
]
