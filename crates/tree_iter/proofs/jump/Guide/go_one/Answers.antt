use Rattle.std.proofs.Common.{◌≡◌, ◌-◌, ◌<◌, length, take, Some, refl, sym, ap, ◌∙◌, subst, arith}
use Rattle.std.specs.Prelude.{slice_get, vec_len}
use Rattle.tree_iter.specs.declared.walk.Walk.{Walk}
use Rattle.tree_iter.specs.Goals.{goal_of}
use Rattle.std.proofs.lemmas.Result.{IfOk-from_err}
use Rattle.flat_steps.specs.Writing.{flat_step}
use Rattle.tree_iter.proofs.Passing.{passes_none}
use Rattle.tree_iter.proofs.LedWalk.{wrote_leads}
use Rattle.tree_iter.proofs.Walks.{left_within}
use Rattle.tree_iter.proofs.jump.Guide.go_one.Goals as goal

pub goal_row-row-requires : goal.goal_row-row-requires
goal_row-row-requires g c =
    let w : Walk = c.args.walk.now in
    let le = left_within w c.requires.stands.0 c.requires.stands.1 in
    let some = c.requires.some in
    let within : w.left - 1 < length w.goals.items = omega arith in
    subst (λ l. w.left - 1 < length l) (sym c.deref.ensures.value) within

pub choose-requires : goal.choose-requires
choose-requires g c =
    let w : Walk = c.args.walk.now in
    let some = c.requires.some in
    record {
      rest = c.requires.stands.0;
      stands = c.requires.stands.1;
      place = w.left - 1;
      row = c.goal_row-row.result;
      left_is = omega arith;
      row_is = subst (λ l. slice_get l (w.left - 1) ≡ Some c.goal_row-row.result) c.deref.ensures.value c.goal_row-row.ensures;
      goal_is = ap goal_of c.in-Choose.is;
      behind_is = refl;
    }

pub write-requires : goal.write-requires
write-requires g c =
    let w : Walk = c.args.walk.now in
    let some = c.requires.some in
    record {
      rest = c.requires.stands.0;
      stands = c.requires.stands.1;
      place = w.left - 1;
      row = c.goal_row-row.result;
      left_is = omega arith;
      row_is = subst (λ l. slice_get l (w.left - 1) ≡ Some c.goal_row-row.result) c.deref.ensures.value c.goal_row-row.ensures;
      goal_is = ap goal_of c.in-Write.is;
      behind_is = refl;
    }

pub returns-in_ok-write-in-Write-clause-goes : goal.returns-in_ok-write-in-Write-clause-goes
returns-in_ok-write-in-Write-clause-goes g c = λ led rest h. passes_none c.write.new.self rest (c.write.ensures.goes rest h)

pub returns-in_err-write-in-Write-clause-goes : goal.returns-in_err-write-in-Write-clause-goes
returns-in_err-write-in-Write-clause-goes g c = IfOk-from_err _ _ c.from_residual.ensures.0

pub returns-in_err-write-in-Write-clause-further : goal.returns-in_err-write-in-Write-clause-further
returns-in_err-write-in-Write-clause-further g c = IfOk-from_err _ _ c.from_residual.ensures.0

pub returns-in_ok-write-in-Write-clause-kept : goal.returns-in_ok-write-in-Write-clause-kept
returns-in_ok-write-in-Write-clause-kept g c = λ h.
    let w : Walk = c.args.walk.now in
    let some = c.requires.some in
    let ok = c.args.self.now.aims.ok.0 in
    let size : vec_len c.args.self.now.aims ≡ length c.args.self.now.aims.items = omega arith in (
      refl,
      wrote_leads c.args.walk.now c.write.new.self c.args.self.now (record c.args.self.now { aims = c.pop.new.self }) (flat_step c.in-Write.step) c.goal_row-row.result.below
          (record {
            rest = c.requires.stands.0;
            stands = c.requires.stands.1;
            place = w.left - 1;
            row = c.goal_row-row.result;
            left_is = omega arith;
            row_is = subst (λ l. slice_get l (w.left - 1) ≡ Some c.goal_row-row.result) c.deref.ensures.value c.goal_row-row.ensures;
            goal_is = ap goal_of c.in-Write.is;
            behind_is = refl;
          }) c.write.ensures.forest c.in_ok-write-in-Write.ensures.on c.in_ok-write-in-Write.ensures.keeps refl refl refl (c.pop.ensures.rest ∙ ap (λ k. take (k - 1) c.args.self.now.aims.items) size) h,
    )

pub returns-in_err-write-in-Write-clause-kept : goal.returns-in_err-write-in-Write-clause-kept
returns-in_err-write-in-Write-clause-kept g c = IfOk-from_err _ _ c.from_residual.ensures.0
