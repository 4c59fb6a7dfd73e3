use Rattle.std.proofs.Common.{◌≡◌, ℕ, ◌+◌, ◌<◌}
use Rattle.std.specs.Prelude.{vec_len}
use Rattle.forest_parts.specs.Given.{items_in}
use Rattle.forest_parts.specs.Hidden.{RisesWithin}
use Rattle.bocage.specs.Given.{AreGivenFor}
use Rattle.first_walk.specs.Place.{IsListedIn}
use Rattle.first_walk.specs.Joined.{AreJoinedIf}
use Rattle.first_walk.specs.Going.{IsWalking, AreAhead, IsGivenTo, AreTo}
use Rattle.first_walk.proofs.walk.go_on.Given as goal

abbrev pub invariant-loop-count : goal.invariant-loop-count
invariant-loop-count g l = record {
  walking : IsWalking l.w l.ranking l.recce l.walk.goals.items l.walk;
  ahead : AreAhead l.w l.ranking l.recce l.place.first l.walk.goals.items;
  listed : IsListedIn l.w l.ranking l.recce l.place.first l.place.parts.items;
  joined : AreJoinedIf l.place.is_joined l.recce l.place.parts.items l.place.joined.items;
  given : AreGivenFor l.w l.ranking l.recce l.given;
  to : AreTo l.place.first l.given;
  all : l.steps + items_in l.fn.given ≡ l.fn.steps + items_in l.given;
  len : l.count < vec_len l.walk.steps;
  counted : (start : ℕ) → RisesWithin (IsGivenTo l.w l.ranking l.recce l.fn.place.first) start l.fn.steps → RisesWithin (IsGivenTo l.w l.ranking l.recce l.place.first) start l.steps;
}
