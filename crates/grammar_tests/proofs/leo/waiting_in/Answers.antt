use Rattle.std.proofs.Common.{◌≡◌, ◌∙◌, ◌++◌, ◌∷◌, [], List, take, slice_index_or, sym, ap}
use Rattle.std.proofs.lemmas.List.{take_more}
use Rattle.std.proofs.lemmas.Option.{same_Some, slice_get_within, slice_get-get_or}
use Rattle.recognizer_model.specs.declared.Item.{Item}
use Rattle.grammar_tests.proofs.leo.waiting_in.Goals as goal

pub loop-k-preserved : goal.loop-k-preserved
loop-k-preserved c =
    let lt = slice_get_within c.waiting-set.result c.loop-k.k c.at.result c.at.ensures in
    let same : slice_index_or c.waiting-set.result c.loop-k.k c.at.result ≡ c.at.result = same_Some _ _ (sym (slice_get-get_or c.waiting-set.result c.loop-k.k c.at.result lt) ∙ c.at.ensures) in
    c.in_ok-push.ensures.items
    ∙ (ap (λ (l : List Item). l ++ c.at.result ∷ []) c.loop-k.invariant
    ∙ (ap (λ (x : Item). take c.loop-k.k c.waiting-set.result ++ x ∷ []) (sym same) ∙ sym (take_more c.waiting-set.result c.loop-k.k c.at.result lt)))
