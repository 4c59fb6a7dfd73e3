use Rattle.std.proofs.Common.{◌<◌, length, rules, map, ap, ◌∙◌}
use Rattle.std.specs.List.{slice_range}
use Rattle.grammar_model.specs.Values.{Text, list_of}
use Rattle.value_text.specs.Nodes.{value_at}
use Rattle.value_text.proofs.Folds.{found_node, found_value, found_ids, id_in}
use Rattle.value_text.proofs.pool.Pool.part.Goals as goal

pub index-requires : goal.index-requires
index-requires c = let b : c.id.inside.0 < length c.self.inside.nodes.items = id_in _ _ _ _ _ _ c.self.view_is c.id.view_is c.requires in search rules

pub text_part-requires : goal.text_part-requires
text_part-requires c =
    let node = found_node _ _ _ _ _ _ c.self.invariant (id_in _ _ _ _ _ _ c.self.view_is c.id.view_is c.requires) c.index.ensures c.in-Text.is in
    rw c.as_str.ensures.value (record { order = node.0; from = node.1; to = node.2 })

pub list_part-requires : goal.list_part-requires
list_part-requires c =
    let node = found_node _ _ _ _ _ _ c.self.invariant (id_in _ _ _ _ _ _ c.self.view_is c.id.view_is c.requires) c.index.ensures c.in-List.is in
    rw c.as_slice.ensures.value (record { order = node.0; to = node.1 })

pub returns-in-Undefined-clause-value : goal.returns-in-Undefined-clause-value
returns-in-Undefined-clause-value c =
    rw (← c.self.view_is, ← c.id.view_is) (found_value _ _ _ _ _ _ c.self.invariant (id_in _ _ _ _ _ _ c.self.view_is c.id.view_is c.requires) c.index.ensures c.in-Undefined.is)

pub returns-in-Number-clause-value : goal.returns-in-Number-clause-value
returns-in-Number-clause-value c =
    rw (← c.self.view_is, ← c.id.view_is) (found_value _ _ _ _ _ _ c.self.invariant (id_in _ _ _ _ _ _ c.self.view_is c.id.view_is c.requires) c.index.ensures c.in-Number.is)

pub returns-in-Text-clause-value : goal.returns-in-Text-clause-value
returns-in-Text-clause-value c =
    ap Text (c.text_part.ensures ∙ (λ i. slice_range (c.as_str.ensures.value i) c.in-Text.from c.in-Text.to))
    ∙ rw (← c.self.view_is, ← c.id.view_is) (found_value _ _ _ _ _ _ c.self.invariant (id_in _ _ _ _ _ _ c.self.view_is c.id.view_is c.requires) c.index.ensures c.in-Text.is)

pub returns-in-List-clause-value : goal.returns-in-List-clause-value
returns-in-List-clause-value c =
    ap (λ ids. list_of (map (value_at c.args.self.now) ids)) (c.list_part.ensures ∙ (λ i. slice_range (c.as_slice.ensures.value i) c.in-List.from c.in-List.to))
    ∙ rw (← c.self.view_is, ← c.id.view_is) (found_value _ _ _ _ _ _ c.self.invariant (id_in _ _ _ _ _ _ c.self.view_is c.id.view_is c.requires) c.index.ensures c.in-List.is)

pub returns-in-List-clause-ids : goal.returns-in-List-clause-ids
returns-in-List-clause-ids c =
    let b : c.id.inside.0 < length c.self.inside.nodes.items = id_in _ _ _ _ _ _ c.self.view_is c.id.view_is c.requires in
    let node = found_node _ _ _ _ _ _ c.self.invariant b c.index.ensures c.in-List.is in
    rw (← c.self.view_is) (found_ids _ _ _ _ _ _ _ node b (c.list_part.ensures ∙ (λ i. slice_range (c.as_slice.ensures.value i) c.in-List.from c.in-List.to)))
