-- Items that wait where parts begin, each with the number of a part that it waits for.
use Rattle.std.specs.Prelude.{◌≡◌, ◌≢◌, ℕ, ◌<◌, ◌≤◌, ◌-◌, ◌↔◌, Bool, true, false, cond, ◌==◌, nat_lt, IsTrue, List, Some, length, slice_get, Contains}
use Rattle.std.specs.List.Sorted.{IsStrictlySortedBy}
use Rattle.std.specs.declared.cmp.Ordering.{Ordering}
use Rattle.std.specs.Ordering.{ordering_then, nat_cmp}
use Rattle.recognizer_model.specs.declared.Item.{Item}
use Rattle.recognizer_model.specs.Items.{after}
use Rattle.earley_sets.specs.Recognizer.{Recognizer, set_at}
use Rattle.forest_parts.specs.declared.parts.Part.{Part}
use Rattle.forest_parts.specs.Parts.{part_at}
use Rattle.first_walk.specs.declared.joined.Joined.{Joined}
use Rattle.first_walk.specs.declared.joined.Found.{Found}
use Rattle.first_walk.specs.Place.{IsFirstMatch, HasOtherStart}

abbrev pub joined_cmp : Joined → Joined → Ordering
joined_cmp a b = ordering_then (nat_cmp a.origin b.origin) (ordering_then (nat_cmp a.rule b.rule) (ordering_then (nat_cmp a.dot b.dot) (nat_cmp a.part b.part)))

abbrev pub item_of_joined : Joined → Item
item_of_joined j = record { rule = j.rule; dot = j.dot; origin = j.origin }

-- its item stands before that one
abbrev pub before_item : Item → Joined → Bool
before_item item j = cond (j.origin == item.origin) (cond (j.rule == item.rule) (nat_lt j.dot item.dot) (nat_lt j.rule item.rule)) (nat_lt j.origin item.origin)

-- those whose items stand before that one end there
pub record IsFromItem (joined : List Joined) (item : Item) (first : ℕ) : Type 0 where
  pub bound : first ≤ length joined
  pub before : (k : ℕ) (j : Joined) → k < first → slice_get joined k ≡ Some j → before_item item j ≡ true
  pub behind : (k : ℕ) (j : Joined) → first ≤ k → slice_get joined k ≡ Some j → before_item item j ≡ false

-- its item waits where the part begins, for the part's symbol
abbrev pub IsJoinedTo : Recognizer → Part → Joined → Type 0
IsJoinedTo r p j = Contains (set_at r (p.end - p.length)) (item_of_joined j) × (after r.flat (item_of_joined j) ≡ Some p.symbol)

-- all items that wait so for the parts
pub record AreJoined (r : Recognizer) (parts : List Part) (joined : List Joined) : Type 0 where
  pub exact : (j : Joined) → Contains joined j ↔ ((j.part < length parts) × IsJoinedTo r (part_at parts j.part) j)
  pub sorted : IsStrictlySortedBy joined_cmp joined

-- one of some has a part of another length than one part
abbrev pub HasOtherLength : List Part → List Joined → ℕ → Type 0
HasOtherLength parts joined first = (j : Joined) × Contains joined j × ((part_at parts j.part).length ≢ (part_at parts first).length)

-- they are listed, if that is said
abbrev pub AreJoinedIf : (is_joined : Bool) → Recognizer → List Part → List Joined → Type 0
AreJoinedIf is_joined r parts joined = IsTrue is_joined → AreJoined r parts joined

-- the first part that matches, and whether one behind it does that begins elsewhere
abbrev pub IsFound : Recognizer → List Part → (symbol : ℕ) → Item → Found → Type 0
IsFound r parts symbol item found = IsFirstMatch r parts symbol item found.first × (IsTrue found.other ↔ HasOtherStart r parts item found.first)
