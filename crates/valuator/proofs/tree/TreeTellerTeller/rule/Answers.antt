use Rattle.std.proofs.Common.{◌≡◌, ◌∷◌, ◌-◌, length, drop, refl, ap, ◌∙◌}
use Rattle.std.proofs.lemmas.Result.{MatchResult-from_err, IfOk-from_err}
use Rattle.grammar_model.specs.Values.{Text, Number, list_of}
use Rattle.valuator.specs.Made.{values_at}
use Rattle.valuator.proofs.Grown.{held_stays, held_replaced, ids_replaced, ids_kept, are_ids-grown, are_ids-drop}
use Rattle.valuator.proofs.tree.TreeTellerTeller.rule.Goals as goal

pub returns-in_err-id-clause-err : goal.returns-in_err-id-clause-err
returns-in_err-id-clause-err c =
    rw (← c.self.view_is) (MatchResult-from_err _ _ _ c.from_residual.ensures.0 (λ _. held_stays _ _ _ _ c.put_node.ensures.grown c.self.invariant refl))

pub returns-in_err-replace-clause-err : goal.returns-in_err-replace-clause-err
returns-in_err-replace-clause-err c =
    rw (← c.self.view_is) (MatchResult-from_err _ _ _ c.from_residual-in_err-replace.ensures.0 (λ _. held_stays _ _ _ _ c.put_node.ensures.grown c.self.invariant c.in_err-replace.ensures.err))

pub invariant_of-self-2 : goal.invariant_of-self-2
invariant_of-self-2 c = ids_replaced _ _ _ _ _ _ _ c.put_node.ensures.grown c.self.invariant c.in_ok-id.ensures.ok c.in_ok-replace.ensures.ok

pub returns-clause-ok : goal.returns-clause-ok
returns-clause-ok c =
    let held : c.newest-held.result.now ≡ drop (length c.self.inside.ids.items - c.args.children) c.self.inside.ids.items =
    c.newest-held.ensures ∙ (λ i. drop (length (c.as_slice.ensures.value i) - c.args.children) (c.as_slice.ensures.value i)) in
    rw (← c.self.view_is)
    (held_replaced _ _ _ _ _ _ _ (λ vs. list_of (Text c.args.name.now ∷ Number c.args.rule ∷ vs)) c.put_node.ensures.grown c.self.invariant c.in_ok-id.ensures.ok c.in_ok-replace.ensures.ok
    (ap (λ ids. list_of (Text c.args.name.now ∷ Number c.args.rule ∷ values_at c.self.inside.pool ids)) held))

pub put_node-requires : goal.put_node-requires
put_node-requires c =
    are_ids-drop _ _ _ (length c.self.inside.ids.items - c.args.children) c.self.invariant
    (c.newest-held.ensures ∙ (λ i. drop (length (c.as_slice.ensures.value i) - c.args.children) (c.as_slice.ensures.value i)))

pub invariant_of-self : goal.invariant_of-self
invariant_of-self c = are_ids-grown _ _ _ c.put_node.ensures.grown c.self.invariant

pub invariant_of-self-in_err-replace : goal.invariant_of-self-in_err-replace
invariant_of-self-in_err-replace c = ids_kept _ _ _ _ c.put_node.ensures.grown c.self.invariant c.in_err-replace.ensures.err

pub returns-in_err-id-clause-ok : goal.returns-in_err-id-clause-ok
returns-in_err-id-clause-ok c = IfOk-from_err _ _ c.from_residual.ensures.0

pub returns-in_err-replace-clause-ok : goal.returns-in_err-replace-clause-ok
returns-in_err-replace-clause-ok c = IfOk-from_err _ _ c.from_residual-in_err-replace.ensures.0
