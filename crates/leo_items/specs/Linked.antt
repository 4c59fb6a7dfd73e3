-- Notes of pairs as they are held: each with the number of the last one before it of the same set.
use Rattle.std.specs.Prelude.{◌≡◌, ◌≢◌, ℕ, suc, ◌<◌, ◌≤◌, List, length, map, slice_index_or}
use Rattle.recognizer_model.specs.declared.Pair.{Pair}
use Rattle.leo_items.specs.declared.memo.Linked.{Linked}
use Rattle.leo_items.specs.Memo.{Note}

abbrev pub note_of : Linked → Note
note_of l = (l.pair, l.top)

abbrev pub notes_of : List Linked → List Note
notes_of ls = map note_of ls

abbrev pub blank : Linked
blank = record { pair = record { set = 0; symbol = 0 }; top = record { rule = 0; dot = 0; origin = 0 }; earlier = 0 }

abbrev pub pair_at : List Linked → ℕ → Pair
pair_at ls k = (slice_index_or ls k blank).pair

-- the number, counted from 1, of the last note of the set among so many first ones; 0 for none
pub record IsLast (ls : List Linked) (bound set number : ℕ) : Type 0 where
  pub within : number ≤ bound
  pub here : (k : ℕ) → suc k ≡ number → (pair_at ls k).set ≡ set
  pub last : (k : ℕ) → k < bound → (pair_at ls k).set ≡ set → k < number

-- each note tells the last one before it of its set, and each pair is noted once
pub record AreLinked (ls : List Linked) : Type 0 where
  pub earlier : (k : ℕ) → k < length ls → IsLast ls k (pair_at ls k).set (slice_index_or ls k blank).earlier
  pub once : (j k : ℕ) → j < k → k < length ls → pair_at ls j ≢ pair_at ls k

-- by set, the last notes
pub record IsHeaded (ls : List Linked) (heads : List ℕ) : Type 0 where
  pub linked : AreLinked ls
  pub head : (set : ℕ) → IsLast ls (length ls) set (slice_index_or heads set 0)
