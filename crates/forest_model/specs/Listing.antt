-- The chosen derivations of a forest's reading, in the declared order, as they are handed out one after another.
use Rattle.std.specs.Prelude.{ℕ, List, ◌++◌, slice_index_or}
use Rattle.grammar_model.specs.Grammar.{slot_of}
use Rattle.grammar_model.specs.Trees.{Tree}
use Rattle.grammar_model.specs.Derives.{Held}
use Rattle.grammar_model.specs.Chosen.{AreChosen}
use Rattle.forest_model.specs.Forest.{Forest}

-- the list of the chosen derivations of the start over all places
abbrev pub IsListing : Forest → List Tree → Type 0
IsListing f trees = AreChosen f.written (Held f.edges) f.ranking (slot_of (slice_index_or f.written.starts f.start 0)) 0 f.place trees

-- these were handed out, from the first on
pub record AreFirst (f : Forest) (given : List Tree) : Type 0 where
  pub rest : List Tree
  pub listing : IsListing f (given ++ rest)
