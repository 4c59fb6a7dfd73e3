-- Items joined with the groups of parts that may stand after them.
use Rattle.std.specs.Prelude.{◌≡◌, ℕ, ◌≤◌, Bool, cond, ◌==◌, nat_lt, List, Some, Contains, ◌↔◌, slice_get}
use Rattle.std.specs.List.Sorted.{IsStrictlySortedBy}
use Rattle.std.specs.declared.cmp.Ordering.{Ordering}
use Rattle.std.specs.Ordering.{ordering_then, nat_cmp}
use Rattle.recognizer_model.specs.declared.Item.{Item}
use Rattle.recognizer_model.specs.Items.{after}
use Rattle.earley_sets.specs.Recognizer.{Recognizer, set_at}
use Rattle.forest_parts.specs.declared.groups.Group.{Group}
use Rattle.bocage.specs.declared.joins.Join.{Join}

abbrev pub join_cmp : Join → Join → Ordering
join_cmp a b = ordering_then (nat_cmp a.rule b.rule) (ordering_then (nat_cmp a.dot b.dot) (ordering_then (nat_cmp a.origin b.origin) (nat_cmp a.group b.group)))

abbrev pub predecessor_of_join : Join → Item
predecessor_of_join j = record { rule = j.rule; dot = j.dot; origin = j.origin }

-- its item stands before that one
abbrev pub before_item : Item → Join → Bool
before_item predecessor j = cond (j.rule == predecessor.rule) (cond (j.dot == predecessor.dot) (nat_lt j.origin predecessor.origin) (nat_lt j.dot predecessor.dot)) (nat_lt j.rule predecessor.rule)

-- its item waits for the group's symbol where the group begins, and does not begin too early
abbrev pub IsJoinOf : Recognizer → (least : ℕ) → Group → Join → Type 0
IsJoinOf r least g j = Contains (set_at r g.start) (predecessor_of_join j) × (after r.flat (predecessor_of_join j) ≡ Some g.symbol) × (least ≤ j.origin)

-- all joins of the groups
pub record AreJoins (r : Recognizer) (least : ℕ) (groups : List Group) (joins : List Join) : Type 0 where
  pub exact : (j : Join) → Contains joins j ↔ ((g : Group) × (slice_get groups j.group ≡ Some g) × IsJoinOf r least g j)
  pub sorted : IsStrictlySortedBy join_cmp joins
