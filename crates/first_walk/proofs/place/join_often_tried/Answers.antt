use Rattle.std.proofs.Common.{List, sym, subst}
use Rattle.forest_parts.specs.declared.parts.Part.{Part}
use Rattle.first_walk.specs.Place.{HavePlaces}
use Rattle.first_walk.proofs.place.join_often_tried.Goals as goal

pub list_joined-requires : goal.list_joined-requires
list_joined-requires c = subst (λ (l : List Part). HavePlaces c.args.recce.now l) (sym c.deref-2.ensures.value) c.requires.places
