-- Numbers that go into rows: pairs of a row and a number, and for each pair the one of its row before it.
use Rattle.std.specs.Prelude.{◌≡◌, ◌≢◌, ℕ, suc, ◌<◌, ◌≤◌, ◌==◌, List, [], ◌∷◌, length, map, if◌then◌else◌, slice_index, slice_index_or}
use Rattle.std.specs.List.{range_with_len}

abbrev pub pair_at : List (ℕ × ℕ) → ℕ → ℕ × ℕ
pair_at pairs k = slice_index_or pairs k (0, 0)

-- the numbers that go into the row
abbrev pub numbers_of : ℕ → List (ℕ × ℕ) → List ℕ
numbers_of x [] = []
numbers_of x (p ∷ ps) = if p.0 == x then p.1 ∷ numbers_of x ps else numbers_of x ps

abbrev pub gathered : ℕ → List (ℕ × ℕ) → List (List ℕ)
gathered count pairs = map (λ x. numbers_of x pairs) (range_with_len 0 count)

-- each pair has one of so many rows
abbrev pub AreWithin : ℕ → List (ℕ × ℕ) → Type 0
AreWithin count pairs = (k : ℕ) → k < length pairs → (pair_at pairs k).0 < count

-- the number goes into the row by a pair that is not before a place
abbrev pub HasFrom : List (ℕ × ℕ) → (x from n : ℕ) → Type 0
HasFrom pairs x from n = (k : ℕ) × (from ≤ k) × (k < length pairs) × ((pair_at pairs k).0 ≡ x) × ((pair_at pairs k).1 ≡ n)

-- the last of the first pairs that has the row, told by its place plus one, or 0 where none has it
pub record IsLast (pairs : List (ℕ × ℕ)) (x count last : ℕ) : Type 0 where
  pub within : last ≤ count
  pub here : (k : ℕ) → suc k ≡ last → (pair_at pairs k).0 ≡ x
  pub none : (k : ℕ) → last ≤ k → k < count → (pair_at pairs k).0 ≢ x

-- the last of the first pairs for each row, and for each of them the last before it of the same row
pub record AreLinks (pairs : List (ℕ × ℕ)) (count : ℕ) (last before : List ℕ) : Type 0 where
  pub sized : length before ≡ count
  pub last_of : (x : ℕ) → x < length last → IsLast pairs x count (slice_index last x)
  pub before_of : (k : ℕ) → k < count → IsLast pairs (pair_at pairs k).0 k (slice_index before k)
