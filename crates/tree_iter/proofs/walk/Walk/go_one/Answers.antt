use Rattle.std.proofs.Common.{◌≡◌, ◌+◌, ◌-◌, ◌<◌, length, Some, refl, sym, ap, subst, arith}
use Rattle.std.specs.Prelude.{slice_get}
use Rattle.std.proofs.lemmas.Result.{on_ok_weaker}
use Rattle.tree_iter.specs.declared.walk.Walk.{Walk}
use Rattle.tree_iter.specs.Goals.{goal_of}
use Rattle.tree_iter.specs.Walk.{HasSteps}
use Rattle.tree_iter.proofs.Walks.{left_within}
use Rattle.tree_iter.proofs.walk.Walk.go_one.Goals as goal

pub goal_row-row-requires : goal.goal_row-row-requires
goal_row-row-requires g c =
    let w : Walk = c.args.self.now in
    let le = left_within w c.requires.stands.0 c.requires.stands.1 in
    let some = c.requires.some in
    let within : w.left - 1 < length w.goals.items = omega arith in
    subst (λ l. w.left - 1 < length l) (sym c.deref.ensures.value) within

pub choose-requires : goal.choose-requires
choose-requires g c =
    let w : Walk = c.args.self.now in
    let some = c.requires.some in
    record {
      rest = c.requires.stands.0;
      stands = c.requires.stands.1;
      place = w.left - 1;
      row = c.goal_row-row.result;
      left_is = omega arith;
      row_is = subst (λ l. slice_get l (w.left - 1) ≡ Some c.goal_row-row.result) c.deref.ensures.value c.goal_row-row.ensures;
      goal_is = ap goal_of c.in-Choose.is;
      behind_is = refl;
    }

pub write-requires : goal.write-requires
write-requires g c =
    let w : Walk = c.args.self.now in
    let some = c.requires.some in
    record {
      rest = c.requires.stands.0;
      stands = c.requires.stands.1;
      place = w.left - 1;
      row = c.goal_row-row.result;
      left_is = omega arith;
      row_is = subst (λ l. slice_get l (w.left - 1) ≡ Some c.goal_row-row.result) c.deref.ensures.value c.goal_row-row.ensures;
      goal_is = ap goal_of c.in-Write.is;
      behind_is = refl;
    }

pub returns-in-Write-clause-looks : goal.returns-in-Write-clause-looks
returns-in-Write-clause-looks g c = on_ok_weaker c.write.result (λ keeps k h.
    (0, subst (HasSteps c.write.new.self) (let e : k ≡ k + 0 = omega arith in e) (keeps k h), (let e : c.args.steps.now ≡ c.args.steps.now + 0 = omega arith in e))) c.write.ensures.keeps
