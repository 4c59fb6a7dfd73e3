-- Numbers that are found, with a mark for each.
use Rattle.std.specs.Prelude.{Bool, false, ℕ, List, slice_index_or, Contains, IsTrue, ◌↔◌}

-- a number is marked just where it is one of them
abbrev pub AreMarks : List Bool → List ℕ → Type 0
AreMarks marks order = (x : ℕ) → IsTrue (slice_index_or marks x false) ↔ Contains order x
