-- Slotted items: numbers of dotted rules, each with a slot, the place of its origin among the origins of a row.
use Rattle.std.specs.Prelude.{◌≡◌, ℕ, ◌+◌, ◌*◌, ◌/◌, ◌%◌, ◌<◌, ◌^◌, List, length, map, slice_index_or, Contains}
use Rattle.std.specs.List.{AllPairs}

abbrev pub Rises : List ℕ → Type 0
Rises row = AllPairs (λ m n. m < n) row

-- the packed item: the slot's origin in place of the slot
abbrev pub placed : (origins : List ℕ) → ℕ → ℕ
placed origins n = (n / 4294967296) * 4294967296 + slice_index_or origins (n % 4294967296) 0

-- the slot has an origin, and with it in place of the slot the packed item is there
abbrev pub IsPlaced : (origins : List ℕ) → (slotted packed : ℕ) → Type 0
IsPlaced origins slotted packed = (slotted % 4294967296 < length origins) × (placed origins slotted ≡ packed)

abbrev pub placed_all : (origins slotted : List ℕ) → List ℕ
placed_all origins slotted = map (placed origins) slotted

-- the numbers of the dotted rules, item by item
abbrev pub dotted_of : (packed : List ℕ) → List ℕ
dotted_of packed = map (λ n. n / 4294967296) packed

-- different origins in order
pub record AreOrigins (origins : List ℕ) : Type 0 where
  pub rise : Rises origins
  pub small : (o : ℕ) → Contains origins o → o < 2 ^ 32

-- slotted items in order, each once, and each slot has an origin
pub record AreSlotted (origins slotted : List ℕ) : Type 0 where
  pub origins_are : AreOrigins origins
  pub rises : Rises slotted
  pub slots : (n : ℕ) → Contains slotted n → n % 4294967296 < length origins
