use Rattle.std.proofs.Common.{◌<◌, [], ◌∷◌, ◌++◌, length, map, ap, ◌∙◌, arith}
use Rattle.std.proofs.lemmas.Result.{IfOk-weaker}
use Rattle.grammar_model.specs.Values.{Text, Number, list_of, name_of}
use Rattle.value_text.specs.Nodes.{value_at}
use Rattle.plain_lister.specs.Told.{grammar_of}
use Rattle.plain_lister.proofs.Pooled.{puts_list, puts_same, bare_lhs}
use Rattle.plain_lister.proofs.lines.node_value.Goals as goal

pub returns : goal.returns
returns c =
    let lt : c.args.rule < length c.args.list.now.lefts.items = omega (arith, c.args.list.now.lefts.ok, c.len.ensures) in
    let left = c.index.ensures ∙ bare_lhs c.args.list.now.lefts.items c.args.rule c.index.result.now lt in
    let items = c.deref.ensures.value ∙ c.in_ok-extend_from_slice.ensures.items
    ∙ ap (λ l. l ++ c.args.children.now) (c.in_ok-push-2.ensures.items ∙ ap (λ l. l ++ c.in_ok-number.number ∷ []) (c.in_ok-push.ensures.items ∙ ap (λ l. l ++ c.in_ok-name.name ∷ []) c.new-items.ensures.items)) in
    IfOk-weaker c.list_value.result _ _
    (λ id p. puts_same _ _ id _ _ (ap (λ s. list_of (Text (name_of (grammar_of c.args.list.now) s) ∷ Number c.args.rule ∷ map (value_at c.args.pool.now) c.args.children.now)) left)
    (puts_list c.args.pool.now c.name_value.new.pool c.number_value.new.pool c.list_value.new.pool c.in_ok-name.name c.in_ok-number.number id _ _ _ c.args.children.now items c.requires c.in_ok-name.ensures c.in_ok-number.ensures p))
    c.list_value.ensures
