-- The last place where an edge with a symbol and a length begins.
use Rattle.std.specs.Prelude.{◌≡◌, ℕ, zero, suc, ◌+◌, ◌*◌, ◌<◌, ◌≤◌, Bool, true, false, ◌&&◌, Option, None, Some, length, nat_eq, nat_lt, slice_index_or, if◌then◌else◌}
use Rattle.indexmap.specs.IndexMap.{get, spare}
use Rattle.grammar_core.specs.declared.latest.LatestPlaces.{LatestPlaces}

-- a number for each symbol and length
abbrev pub edge_key : (symbol length : ℕ) → ℕ
edge_key symbol length = 4294967296 * symbol + length

-- edges of length one are found by their symbol, where it is below 65,536
abbrev pub is_listed : (symbol length : ℕ) → Bool
is_listed symbol length = nat_eq length 1 && nat_lt symbol 65536

-- a place by one more than it, and 0 for none
abbrev pub place_of : ℕ → Option ℕ
place_of zero = None
place_of (suc place) = Some place

abbrev pub latest_at : LatestPlaces → (symbol length : ℕ) → Option ℕ
latest_at l symbol length =
    if is_listed symbol length then place_of (slice_index_or l.ones.items symbol 0) else get nat_eq l.others (edge_key symbol length)

-- there is room for the place of a symbol and a length
abbrev pub HasRoom : LatestPlaces → (symbol length : ℕ) → Type 0
HasRoom l symbol n = (is_listed symbol n ≡ true → symbol < length l.ones.items) × (is_listed symbol n ≡ false → 1 ≤ spare l.others)
