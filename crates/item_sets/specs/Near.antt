-- A hash by which what is near stands together.
use Rattle.std.specs.Prelude.{ℕ, ◌+◌, ◌*◌, ◌/◌, ◌%◌, ◌^◌, List, slice_index_or, bit_xor}
use Rattle.item_sets.specs.declared.near.NearHasher.{NearHasher}

abbrev pub start : NearHasher
start = record { mixed = 0; before = 0; last = 0 }

abbrev pub mixed_with : ℕ → ℕ → ℕ
mixed_with state number = let y = (bit_xor state number * 0x9e3779b97f4a7c15) % 2 ^ 64 in bit_xor y (y / 2 ^ 32)

-- the first four bytes as a number, the lowest first
abbrev pub number_in : List ℕ → ℕ
number_in bytes = slice_index_or bytes 0 0 + slice_index_or bytes 1 0 * 256 + slice_index_or bytes 2 0 * 65536 + slice_index_or bytes 3 0 * 16777216

abbrev pub written : NearHasher → List ℕ → NearHasher
written h bytes = record { mixed = mixed_with h.mixed h.before; before = h.last; last = number_in bytes }

-- what keys that stand together have in common: all numbers but the last two, and of these what is after their lowest two bits
abbrev pub block_of : NearHasher → ℕ
block_of h = mixed_with (mixed_with h.mixed (h.before / 4)) (h.last / 4)

-- the lowest bits change the highest four bits of the hash alone, by which a table does not place keys but tells them apart
abbrev pub finished : NearHasher → ℕ
finished h = bit_xor (block_of h % 4294967296) ((h.before % 4 * 4 + h.last % 4) * 268435456)
