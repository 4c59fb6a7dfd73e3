use Rattle.std.proofs.Common.{ℕ, List, [], ◌∷◌, ◌++◌, map, sym, ap, ◌∙◌}
use Rattle.std.specs.Prelude.{string_bytes}
use Rattle.std.specs.Borrow.{Bor}
use Rattle.std.proofs.lemmas.List.{map-append, map_more}
use Rattle.run_scenes.proofs.words_of.Goals as goal

pub loop-text-preserved : goal.loop-text-preserved
loop-text-preserved c =
    ap (map string_bytes) c.in_ok-push.ensures.items ∙ map-append string_bytes c.loop-text.words.items (c.in_ok-from_str.field-0 ∷ [])
    ∙ (λ z. c.loop-text.invariant z ++ c.in_ok-from_str.ensures.ok z ∷ []) ∙ sym (map_more (λ (text : Bor (List ℕ)). text.now) c.args.texts.now c.loop-text.text-index _ c.loop-text-test.true)
