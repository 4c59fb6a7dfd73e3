use Rattle.std.proofs.Common.{◌∙◌, ◌∷◌, ◌++◌, [], ap}
use Rattle.std.proofs.lemmas.Result.{IfOk-weaker}
use Rattle.grammar_model.specs.Values.{Text, Number, list_of}
use Rattle.valuator.specs.Made.{values_at}
use Rattle.valuator.proofs.Grown.{stands_put, stands_as, node_parts, grown_through, grown_tried, are_ids-grown, ids_both}
use Rattle.valuator.proofs.tree.put_node.Goals as goal

pub returns-clause-ok : goal.returns-clause-ok
returns-clause-ok c =
    IfOk-weaker c.list.result _ _
    (λ id put. stands_as _ _ _ _ (stands_put _ _ _ _ put)
    (ap list_of (node_parts c.args.pool.now c.add_text.new.pool c.add_num.new.pool c.add_text.new.ids.items c.add_num.new.ids.items c.as_slice.result.now c.args.children.now c.args.name.now c.args.rule
    c.add_text.ensures.grown c.add_num.ensures.grown c.requires
    (c.in_ok-add_text.ensures.ok ∙ ap (λ ids. values_at c.args.pool.now ids ++ Text c.args.name.now ∷ []) c.clear.ensures.items)
    (c.in_ok-add_num.ensures.ok ∙ ap (λ n. values_at c.add_text.new.pool c.add_text.new.ids.items ++ Number n ∷ []) c.rule.view_is)
    (c.as_slice.ensures.value ∙ c.in_ok-extend_from_slice.ensures.items))))
    c.list.ensures.ok

pub add_num-requires : goal.add_num-requires
add_num-requires c = c.add_text.ensures.ids

pub list-requires : goal.list-requires
list-requires c =
    ids_both _ _ _ _ c.add_num.ensures.ids (are_ids-grown _ _ _ (grown_through _ _ _ c.add_text.ensures.grown c.add_num.ensures.grown) c.requires)
    (c.as_slice.ensures.value ∙ c.in_ok-extend_from_slice.ensures.items)

pub returns-in_err-add_text-clause-grown : goal.returns-in_err-add_text-clause-grown
returns-in_err-add_text-clause-grown c = c.add_text.ensures.grown

pub returns-in_err-add_num-clause-grown : goal.returns-in_err-add_num-clause-grown
returns-in_err-add_num-clause-grown c = grown_through _ _ _ c.add_text.ensures.grown c.add_num.ensures.grown

pub returns-in_err-extend_from_slice-clause-grown : goal.returns-in_err-extend_from_slice-clause-grown
returns-in_err-extend_from_slice-clause-grown c = grown_through _ _ _ c.add_text.ensures.grown c.add_num.ensures.grown

pub returns-clause-grown : goal.returns-clause-grown
returns-clause-grown c =
    grown_through _ _ _ (grown_through _ _ _ c.add_text.ensures.grown c.add_num.ensures.grown) (grown_tried _ _ _ c.list.result c.list.ensures.ok c.list.ensures.err)
