use Rattle.std.proofs.Common.{arith, sym, ◌∙◌, ap, ◌∷◌, [], ◌++◌, map, take}
use Rattle.std.proofs.lemmas.List.{map-append, take_all}
use Rattle.language_model.specs.Building.{place_in}
use Rattle.dsl_faults.proofs.Lists.{take_get}
use Rattle.dsl_build.proofs.symbols.places_of.Goals as goal

pub loop-k-preserved : goal.loop-k-preserved
loop-k-preserved c =
    let number = place_in c.args.names.now in
    let before = take c.loop-k.k c.args.texts.now in
    c.in_ok-push.ensures.items ∙ ap (λ ps. ps ++ c.symbol.inside.0 ∷ []) c.loop-k.invariant ∙ ap (λ n. map number before ++ n ∷ []) (c.symbol.view_is ∙ c.symbol_of-symbol.ensures)
    ∙ sym (ap (map number) (take_get c.args.texts.now c.loop-k.k c.text.result.now c.text.ensures) ∙ map-append number before (c.text.result.now ∷ []))

pub returns : goal.returns
returns c = c.loop-k.invariant ∙ ap (map (place_in c.args.names.now)) (take_all c.loop-k.k c.args.texts.now (omega arith))
