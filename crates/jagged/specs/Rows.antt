-- Rows that lie end to end, told apart by the places where each ends.
use Rattle.std.specs.Prelude.{ℕ, ◌≤◌, List, [], ◌∷◌, take, drop, slice_index_or}

abbrev pub cut : {A : Type 0} → ℕ → List ℕ → List A → List (List A)
cut from [] items = []
cut from (end ∷ ends) items = drop from (take end items) ∷ cut end ends items

-- the ends rise, up to at most the length
abbrev pub AreEnds : ℕ → List ℕ → (length : ℕ) → Type 0
AreEnds from [] n = from ≤ n
AreEnds from (end ∷ ends) n = (from ≤ end) × AreEnds end ends n

abbrev pub last_end : ℕ → List ℕ → ℕ
last_end from [] = from
last_end from (end ∷ ends) = last_end end ends

abbrev pub row_at : {A : Type 0} → List (List A) → ℕ → List A
row_at rows k = slice_index_or rows k []
