use Rattle.std.proofs.Common.{List, refl, sym, subst}
use Rattle.forest_parts.specs.declared.parts.Part.{Part}
use Rattle.bocage.proofs.Splits.{used_within}
use Rattle.first_walk.specs.Place.{HaveLast}
use Rattle.first_walk.proofs.Choices.{have_places}
use Rattle.first_walk.proofs.Coming.{last_at}
use Rattle.first_walk.proofs.walk.choose_in.Goals as goal

pub last_symbol-symbol-requires-clause-rule : goal.last_symbol-symbol-requires-clause-rule
last_symbol-symbol-requires-clause-rule g c = (used_within c.args.w.now c.args.ranking c.args.recce.now c.requires.read c.args.key c.requires.used).is_rule

pub last_symbol-symbol-requires-clause-dot : goal.last_symbol-symbol-requires-clause-dot
last_symbol-symbol-requires-clause-dot g c = (used_within c.args.w.now c.args.ranking c.args.recce.now c.requires.read c.args.key c.requires.used).parts

pub choose-chosen-requires-clause-listed : goal.choose-chosen-requires-clause-listed
choose-chosen-requires-clause-listed g c =
    subst (λ (l : List Part). HaveLast c.args.w.now c.args.ranking c.args.recce.now c.args.key l) (sym c.deref.ensures.value)
    (last_at c.args.w.now c.args.ranking c.args.recce.now c.requires.read c.args.key c.requires.used c.come_to.new.place.first c.come_to.new.place.parts.items c.in_ok-come_to.ensures.listed c.in_ok-come_to.ensures.here)

pub join_often_tried-requires-clause-places : goal.join_often_tried-requires-clause-places
join_often_tried-requires-clause-places g c =
    have_places c.args.w.now c.args.ranking c.args.recce.now c.requires.read c.args.key c.requires.used _ refl c.come_to.new.place.parts.items
    (last_at c.args.w.now c.args.ranking c.args.recce.now c.requires.read c.args.key c.requires.used c.come_to.new.place.first c.come_to.new.place.parts.items c.in_ok-come_to.ensures.listed c.in_ok-come_to.ensures.here)
