use Rattle.std.proofs.Common.{◌≡◌, ◌-◌, length, drop, refl, ap, ◌∙◌, List}
use Rattle.std.proofs.lemmas.Result.{MatchResult-from_err, IfOk-from_err}
use Rattle.std.specs.List.{items_where_true}
use Rattle.grammar_model.specs.Values.{Value, Made, made_by}
use Rattle.value_text.specs.Meaning.{action_of}
use Rattle.valuator.proofs.Grown.{held_stays, held_replaced, ids_replaced, ids_kept, shown_values, shown_ids, are_ids-grown}
use Rattle.valuator.proofs.array.ArrayTellerTeller.rule.Goals as goal

pub make-requires : goal.make-requires
make-requires c =
    let held : c.newest-held.result.now ≡ drop (length c.self.inside.ids.items - c.args.children) c.self.inside.ids.items =
    c.newest-held.ensures ∙ (λ i. drop (length (c.as_slice.ensures.value i) - c.args.children) (c.as_slice.ensures.value i)) in
    shown_ids _ _ _ _ _ _ c.self.invariant (c.as_slice-2.ensures.value ∙ c.in_ok-list_visible.ensures) held

pub returns-in_err-id-clause-err : goal.returns-in_err-id-clause-err
returns-in_err-id-clause-err c =
    rw (← c.self.view_is) (MatchResult-from_err _ _ _ c.from_residual-in_err-id.ensures.0 (λ _. held_stays _ _ _ _ c.make.ensures.grown c.self.invariant refl))

pub returns-in_err-replace-clause-err : goal.returns-in_err-replace-clause-err
returns-in_err-replace-clause-err c =
    rw (← c.self.view_is) (MatchResult-from_err _ _ _ c.from_residual-in_err-replace.ensures.0 (λ _. held_stays _ _ _ _ c.make.ensures.grown c.self.invariant c.in_err-replace.ensures.err))

pub invariant_of-self-2 : goal.invariant_of-self-2
invariant_of-self-2 c = ids_replaced _ _ _ _ _ _ _ c.make.ensures.grown c.self.invariant c.in_ok-id.ensures.ok c.in_ok-replace.ensures.ok

pub returns-clause-ok : goal.returns-clause-ok
returns-clause-ok c =
    let held : c.newest-held.result.now ≡ drop (length c.self.inside.ids.items - c.args.children) c.self.inside.ids.items =
    c.newest-held.ensures ∙ (λ i. drop (length (c.as_slice.ensures.value i) - c.args.children) (c.as_slice.ensures.value i)) in
    let seen = shown_values c.self.inside.pool c.args.shown.now c.self.inside.ids.items c.newest-held.result.now c.as_slice-2.result.now (length c.self.inside.ids.items - c.args.children)
    (c.as_slice-2.ensures.value ∙ c.in_ok-list_visible.ensures) held in
    let given : List Value → Made = λ vs. record { name = c.args.name.now; start = c.args.start; length = c.args.length; g1start = c.args.g1start; g1length = c.args.g1length; children = vs } in
    rw (← c.self.view_is)
    (held_replaced _ _ _ _ _ _ _ (λ vs. made_by (action_of c.args.action.now) (given (items_where_true c.args.shown.now vs))) c.make.ensures.grown c.self.invariant c.in_ok-id.ensures.ok c.in_ok-replace.ensures.ok
    (ap (λ vs. made_by (action_of c.args.action.now) (given vs)) seen))

pub invariant_of-self : goal.invariant_of-self
invariant_of-self c = c.self.invariant

pub invariant_of-self-in_err-id : goal.invariant_of-self-in_err-id
invariant_of-self-in_err-id c = are_ids-grown _ _ _ c.make.ensures.grown c.self.invariant

pub invariant_of-self-in_err-replace : goal.invariant_of-self-in_err-replace
invariant_of-self-in_err-replace c = ids_kept _ _ _ _ c.make.ensures.grown c.self.invariant c.in_err-replace.ensures.err

pub returns-in_err-list_visible-clause-ok : goal.returns-in_err-list_visible-clause-ok
returns-in_err-list_visible-clause-ok c = IfOk-from_err _ _ c.from_residual.ensures.0

pub returns-in_err-id-clause-ok : goal.returns-in_err-id-clause-ok
returns-in_err-id-clause-ok c = IfOk-from_err _ _ c.from_residual-in_err-id.ensures.0

pub returns-in_err-replace-clause-ok : goal.returns-in_err-replace-clause-ok
returns-in_err-replace-clause-ok c = IfOk-from_err _ _ c.from_residual-in_err-replace.ensures.0
