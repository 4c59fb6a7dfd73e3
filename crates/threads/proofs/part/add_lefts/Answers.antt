use Rattle.std.proofs.Common.{None, ◌+◌, take, ℕ, sym, subst, arith}
use Rattle.std.specs.declared.vec.Vec.{Vec}
use Rattle.std.specs.declared.alloc.Global.{Global}
use Rattle.std.proofs.lemmas.List.Elements.{Contains-get_or}
use Rattle.threads.specs.Goals.{HasAdded, HasAddedLefts}
use Rattle.threads.proofs.Goals.{lefts_none, lefts_more, lefts_skip, not_none}
use Rattle.threads.proofs.part.add_lefts.Goals.{then-is_none+then-waits_for+in_ok-add_goal, else-is_none, else-is_none-via-then-is_none+else-waits_for, else-is_none-via-else-is_none}
use Rattle.std.proofs.lemmas.List.{take_all}
use Rattle.threads.proofs.part.add_lefts.Goals as goal

pub waits_for-requires : goal.waits_for-requires
waits_for-requires c = c.requires _ (Contains-get_or c.args.row.now c.loop-thread.thread-index (record { rule = 0; dot = 0; label = None }) (omega arith))

pub lhs-requires : goal.lhs-requires
lhs-requires c = c.requires _ (Contains-get_or c.args.row.now c.loop-thread.thread-index (record { rule = 0; dot = 0; label = None }) (omega arith))

pub loop-thread-init : goal.loop-thread-init
loop-thread-init c = lefts_none c.args.flat.now c.args.row.now c.args.goal c.args.goals.now.items

pub loop-thread-preserved : goal.loop-thread-preserved
loop-thread-preserved c =
    let g = c.args.flat.now in
    let row = c.args.row.now in
    let i = c.loop-thread.thread-index in
    let old = c.args.goals.now.items in
    let mid = c.loop-thread.goals.items in
    let lt = c.loop-thread-test.true in
    elim c.if-is_none.branch [
      | then-is_none+then-waits_for+in_ok-add_goal w ↦
          subst (λ (v : Vec ℕ Global). HasAddedLefts g (take (i + 1) row) c.args.goal old v.items) (sym w.goals-is)
          (lefts_more g row c.args.goal old i (record { rule = 0; dot = 0; label = None }) lt mid c.loop-thread.invariant w.add_goal.new.goals.items (subst (HasAdded mid w.add_goal.new.goals.items) w.lhs.ensures w.in_ok-add_goal.ensures))
      | else-is_none w ↦
          subst (λ (v : Vec ℕ Global). HasAddedLefts g (take (i + 1) row) c.args.goal old v.items) (sym w.goals-is)
          (lefts_skip g row c.args.goal old i (record { rule = 0; dot = 0; label = None }) lt mid c.loop-thread.invariant (λ e none. elim w.else-is_none.branch [
            | else-is_none-via-then-is_none+else-waits_for w' ↦ let t = w'.waits_for.ensures.waits.1 e in let f = w'.if-waits_for.false in absurd (cc)
            | else-is_none-via-else-is_none w' ↦ not_none _ c.is_none.result c.is_none.ensures w'.if-is_none.false none
          ]))
    ]

pub returns : goal.returns
returns c = subst (λ l. HasAddedLefts c.args.flat.now l c.args.goal c.args.goals.now.items c.loop-thread.goals.items) (take_all c.loop-thread.thread-index c.args.row.now c.loop-thread-test.false) c.loop-thread.invariant
