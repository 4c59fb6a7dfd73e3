use Rattle.std.proofs.Common.{◌<◌, [], ◌∷◌, length, refl, sym, ap, ◌∙◌, arith}
use Rattle.std.proofs.lemmas.Result.{IfOk-weaker}
use Rattle.grammar_model.specs.Values.{Text, list_of, name_of}
use Rattle.plain_lister.specs.Told.{grammar_of}
use Rattle.plain_lister.proofs.Pooled.{puts_list, puts_same, token_text}
use Rattle.plain_lister.proofs.lines.leaf_value.Goals as goal

pub returns : goal.returns
returns c =
    let lt : c.args.from < length c.args.list.now.input.items = omega (arith, c.args.list.now.input.ok, c.len.ensures) in
    let text = c.index.ensures ∙ refl in
    let token = token_text 0 c.args.list.now.input.items c.args.from c.index.result.now lt in
    IfOk-weaker c.list_value.result _ _
    (λ id p. puts_same _ _ id _ _ (ap (λ l. list_of (Text (name_of (grammar_of c.args.list.now) c.args.symbol) ∷ Text l ∷ [])) (ap (λ b. b ∷ []) c.index.ensures ∙ sym token))
    (puts_list c.args.pool.now c.name_value.new.pool c.byte_value.new.pool c.list_value.new.pool c.in_ok-name.name c.in_ok-text.text id _ _ _ [] refl (λ k d h. absurd (omega arith)) c.in_ok-name.ensures c.in_ok-text.ensures p))
    c.list_value.ensures
