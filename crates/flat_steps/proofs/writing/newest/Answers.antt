use Rattle.std.proofs.Common.{◌≡◌, suc, ◌+◌, ◌-◌, sym, subst, ◌∙◌, add-one, arith}
use Rattle.flat_steps.specs.Writing.{AreTakenOff}
use Rattle.flat_steps.proofs.Written.{taken_more, taken_same, taken_bound, newest_few}
use Rattle.flat_steps.proofs.writing.newest.Goals.{then-top-gt0, else-top-gt0}
use Rattle.flat_steps.proofs.writing.newest.Goals as goal

pub row_at-row-requires : goal.row_at-row-requires
row_at-row-requires c =
    let bound = taken_bound c.args.rows.now c.requires.on_top.0 c.newest.counter (record { count = c.newest.sum; below = c.newest.top }) (c.newest.invariant c.requires.on_top.0 c.requires.on_top.1.counted) in
    let some = c.if-top-gt0.true in
    omega arith

pub overflow_add-sum : goal.overflow_add-sum
overflow_add-sum c =
    let counts = c.requires.on_top.0 in
    let few = c.requires.on_top.1.few in
    let place : c.newest.top ≡ suc (c.newest.top - 1) = (let some = c.if-top-gt0.true in omega arith) in
    let old : AreTakenOff c.args.rows.now c.newest.counter counts (record { count = c.newest.sum; below = suc (c.newest.top - 1) }) =
    subst (λ k. AreTakenOff c.args.rows.now c.newest.counter counts (record { count = c.newest.sum; below = k })) place (c.newest.invariant counts c.requires.on_top.1.counted) in
    let more = taken_more c.args.rows.now counts c.newest.counter c.newest.sum (c.newest.top - 1) c.row_at-row.result c.row_at-row.ensures old in
    let sum = more.sum in
    let within = newest_few (suc c.newest.counter) counts in
    let rows = c.requires.few in
    omega arith

pub newest-preserved : goal.newest-preserved
newest-preserved c = λ counts h. elim c.if-top-gt0.branch as (λ _. AreTakenOff c.args.rows.now (c.newest.counter + 1) counts (record { count = c.if-top-gt0.sum; below = c.if-top-gt0.top })) [
  | then-top-gt0 w ↦
      let place : c.newest.top ≡ suc (c.newest.top - 1) = (let some = w.if-top-gt0.true in omega arith) in
      let old : AreTakenOff c.args.rows.now c.newest.counter counts (record { count = c.newest.sum; below = suc (c.newest.top - 1) }) =
      subst (λ k. AreTakenOff c.args.rows.now c.newest.counter counts (record { count = c.newest.sum; below = k })) place (c.newest.invariant counts h) in
      let more = taken_more c.args.rows.now counts c.newest.counter c.newest.sum (c.newest.top - 1) w.row_at-row.result w.row_at-row.ensures old in
      subst (λ k. AreTakenOff c.args.rows.now k counts (record { count = c.if-top-gt0.sum; below = c.if-top-gt0.top })) (sym (add-one c.newest.counter))
      (subst (λ k. AreTakenOff c.args.rows.now (suc c.newest.counter) counts (record { count = k; below = c.if-top-gt0.top })) (sym w.sum-is)
      (subst (λ k. AreTakenOff c.args.rows.now (suc c.newest.counter) counts (record { count = c.newest.sum + w.row_at-row.result.count; below = k })) (sym w.top-is) more))
  | else-top-gt0 w ↦
      let none : c.newest.top ≡ 0 = (let e = w.if-top-gt0.false in omega arith) in
      let old : AreTakenOff c.args.rows.now c.newest.counter counts (record { count = c.newest.sum; below = 0 }) =
      subst (λ k. AreTakenOff c.args.rows.now c.newest.counter counts (record { count = c.newest.sum; below = k })) none (c.newest.invariant counts h) in
      let more = taken_same c.args.rows.now counts c.newest.counter c.newest.sum old in
      subst (λ k. AreTakenOff c.args.rows.now k counts (record { count = c.if-top-gt0.sum; below = c.if-top-gt0.top })) (sym (add-one c.newest.counter))
      (subst (λ k. AreTakenOff c.args.rows.now (suc c.newest.counter) counts (record { count = k; below = c.if-top-gt0.top })) (sym w.sum-is)
      (subst (λ k. AreTakenOff c.args.rows.now (suc c.newest.counter) counts (record { count = c.newest.sum; below = k })) (sym (w.top-is ∙ none)) more))
]
