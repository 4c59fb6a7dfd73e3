use Rattle.std.proofs.Common.{◌≡◌, ◌+◌, ◌-◌, ◌<◌, List, [], ◌∷◌, length, take, length-append, refl, ap, ◌∙◌, arith}
use Rattle.std.specs.Prelude.{vec_len}
use Rattle.tree_iter.specs.declared.walk.Choice.{Choice}
use Rattle.tree_iter.specs.declared.walk.Walk.{Walk}
use Rattle.std.proofs.lemmas.Result.{IfOk-from_err}
use Rattle.finite_sets.proofs.Clauses.{on_err}
use Rattle.tree_iter.proofs.Walks.{gave_up, none_left}
use Rattle.tree_iter.proofs.walk.Walk.go_back.Goals as goal

pub cut-requires-clause-behind : goal.cut-requires-clause-behind
cut-requires-clause-behind g c = (c.requires.0, c.back.invariant.goes c.requires.0 c.requires.1)

pub overflow_sub-choice : goal.overflow_sub-choice
overflow_sub-choice g c =
    let back = c.cut.ensures.back c.requires.0 (c.back.invariant.goes c.requires.0 c.requires.1) in
    let chosen = back.is.chosen_is in
    let among = back.is.among in
    let count = back.is.count in
    omega arith

pub choose_next-requires-clause-back : goal.choose_next-requires-clause-back
choose_next-requires-clause-back g c = (c.requires.0, c.cut.ensures.back c.requires.0 (c.back.invariant.goes c.requires.0 c.requires.1))

pub overflow_sub-as_slice : goal.overflow_sub-as_slice
overflow_sub-as_slice g c =
    let size : length c.as_slice.result.now ≡ length c.in-Some.ensures.some.0 + 1 =
    ap (λ (l : List Choice). length l) (c.as_slice.ensures.value ∙ ap (λ (v : _). v.items) c.cut.ensures.choices ∙ c.in-Some.ensures.some.1) ∙ length-append c.in-Some.ensures.some.0 (c.in-Some.choice ∷ []) in
    omega arith

pub back-smaller : goal.back-smaller
back-smaller g c =
    let size : length c.as_slice.result.now ≡ length c.in-Some.ensures.some.0 + 1 =
    ap (λ (l : List Choice). length l) (c.as_slice.ensures.value ∙ ap (λ (v : _). v.items) c.cut.ensures.choices ∙ c.in-Some.ensures.some.1) ∙ length-append c.in-Some.ensures.some.0 (c.in-Some.choice ∷ []) in
    let cut = c.truncate.ensures.len in
    let whole = c.as_slice.ensures.len in
    let same : vec_len c.cut.new.self.choices ≡ vec_len c.back.self.choices = ap (λ (v : _). vec_len v) c.cut.ensures.choices in
    let smaller : vec_len c.truncate.new.self < vec_len c.back.self.choices = omega arith in
    smaller

pub back-preserved : goal.back-preserved
back-preserved g c = record {
  forest = c.cut.ensures.forest ∙ c.back.invariant.forest;
  none = c.back.invariant.none;
  goes = λ rest h.
      (let w : Walk = c.cut.new.self in
      let last = c.if-choice-gt1.false in
      gave_up w (record w { choices = c.truncate.new.self }) rest c.in-Some.choice
      (c.truncate.ensures.items ∙ ap (λ (l : List Choice). take (length l - 1) w.choices.items) c.as_slice.ensures.value)
      (omega arith) (c.cut.ensures.back rest (c.back.invariant.goes rest h)));
}

pub returns-clause-ok : goal.returns-clause-ok
returns-clause-ok g c = λ rest h.
    let behind = c.back.invariant.goes rest h in
    (behind, none_left c.back.self rest (c.in_default.ensures.none refl) behind)

pub returns-then-choice-gt1-clause-looks : goal.returns-then-choice-gt1-clause-looks
returns-then-choice-gt1-clause-looks g c = λ k h.
    let less = c.in_ok-choose_next.ensures.looks k h in
    let same = c.back.invariant.none in
    omega arith

pub back-init : goal.back-init
back-init g c = record { forest = refl; goes = λ rest h. h; none = refl }

pub cut-requires-clause-last : goal.cut-requires-clause-last
cut-requires-clause-last g c = c.in-Some.ensures.some

pub returns-in_err-choose_next-clause-ok : goal.returns-in_err-choose_next-clause-ok
returns-in_err-choose_next-clause-ok g c = IfOk-from_err _ _ c.from_residual.ensures.0

pub returns-in_err-choose_next-clause-looks : goal.returns-in_err-choose_next-clause-looks
returns-in_err-choose_next-clause-looks g c = IfOk-from_err _ _ c.from_residual.ensures.0

pub returns-in_err-choose_next-clause-err : goal.returns-in_err-choose_next-clause-err
returns-in_err-choose_next-clause-err g c = on_err c.from_residual.result (λ rest h. c.in_err-choose_next.ensures.err rest (c.cut.ensures.back rest (c.back.invariant.goes rest h)))

pub returns-in_err-choose_next-clause-forest : goal.returns-in_err-choose_next-clause-forest
returns-in_err-choose_next-clause-forest g c = c.choose_next.ensures.forest ∙ c.cut.ensures.forest ∙ c.back.invariant.forest

pub returns-then-choice-gt1-clause-ok : goal.returns-then-choice-gt1-clause-ok
returns-then-choice-gt1-clause-ok g c = λ rest h. c.in_ok-choose_next.ensures.ok rest (c.cut.ensures.back rest (c.back.invariant.goes rest h))

pub returns-then-choice-gt1-clause-forest : goal.returns-then-choice-gt1-clause-forest
returns-then-choice-gt1-clause-forest g c = c.choose_next.ensures.forest ∙ c.cut.ensures.forest ∙ c.back.invariant.forest

pub returns-clause-looks : goal.returns-clause-looks
returns-clause-looks g c = c.back.invariant.none

pub returns-clause-forest : goal.returns-clause-forest
returns-clause-forest g c = c.back.invariant.forest
