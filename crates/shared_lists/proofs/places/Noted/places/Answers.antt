use Rattle.std.proofs.Common.{◌≡◌, ◌∙◌, List, Some, slice_get, refl, sym, ap, subst}
use Rattle.std.proofs.lemmas.Bool.{ltb-true}
use Rattle.std.proofs.lemmas.Option.{slice_get_read}
use Rattle.std.specs.declared.vec.Vec.{Vec}
use Rattle.std.specs.declared.alloc.Global.{Global}
use Rattle.shared_lists.specs.declared.places.Places.{Places}
use Rattle.shared_lists.proofs.Placing.{places_there}
use Rattle.shared_lists.proofs.places.Noted.places.Goals as goal

pub returns : goal.returns
returns c =
    let lookup = c.in_ok-block.ensures.lookup in
    places_there _ c.args.kind c.args.symbol c.in_ok-block.block.now c.place_at.result
    (subst (λ (l : List (Vec Places Global)). slice_get l c.args.kind ≡ Some c.in_ok-block.block.now) c.deref.ensures.value (slice_get_read c.deref.result.now _ c.args.kind c.in_ok-block.block.now refl (ltb-true _ _ (sym lookup.0)) lookup.1))
    (c.place_at.ensures ∙ ap (λ (l : List Places). slice_get l c.args.symbol) c.deref-2.ensures.value)
