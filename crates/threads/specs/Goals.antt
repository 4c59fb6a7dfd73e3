-- Symbols that were added to a list.
use Rattle.std.specs.Prelude.{◌≡◌, ℕ, ◌<◌, length, ◌++◌, List, Some, None, Contains}
use Rattle.recognizer_model.specs.Flat.{FlatGrammar, lhs_of}
use Rattle.recognizer_model.specs.declared.thread.Thread.{Thread}
use Rattle.recognizer_model.specs.Threads.{next, Waiting}
use Rattle.threads.specs.Lists.{list_at, IsGrown}
use Rattle.threads.specs.Steps.{IsPartIn}

pub record HasAdded (old new : List ℕ) (x : ℕ) : Type 0 where
  pub more : (more : List ℕ) × (new ≡ old ++ more)
  pub there : Contains new x

-- the left sides of threads that begin in the row and wait for a goal
pub record HasAddedLefts (g : FlatGrammar) (row : List Thread) (goal : ℕ) (old new : List ℕ) : Type 0 where
  pub more : (more : List ℕ) × (new ≡ old ++ more)
  pub lefts : (low : Thread) → Contains row low → next g low ≡ Some goal → low.label ≡ None → Contains new (lhs_of g low.rule)

-- wherever it stands, the list is the row's part for the symbol
abbrev pub IsPartList : FlatGrammar → (row part : List Thread) → (symbol : ℕ) → Type 0
IsPartList g row part x =
    (parts : List (List Thread)) (s : ℕ) → s < length parts → list_at parts s ≡ part → (later : List (List Thread)) → IsGrown parts later → IsPartIn g later (Waiting g row) s x
