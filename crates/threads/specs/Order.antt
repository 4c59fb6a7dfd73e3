-- The order of threads by what they wait for.
use Rattle.std.specs.Prelude.{ℕ, ◌↔◌, List, Option, Some, None, Contains}
use Rattle.std.specs.List.Sorted.{IsNonDecreasingBy}
use Rattle.recognizer_model.specs.declared.thread.Thread.{Thread}
use Rattle.recognizer_model.specs.Flat.{FlatGrammar}
use Rattle.recognizer_model.specs.Threads.{next}

-- the end stands after all symbols
abbrev pub or_end : Option ℕ → ℕ
or_end None = 4294967296
or_end (Some symbol) = symbol

abbrev pub awaited : FlatGrammar → Thread → ℕ
awaited g th = or_end (next g th)

abbrev pub IsInOrder : FlatGrammar → List Thread → Type 0
IsInOrder g threads = IsNonDecreasingBy (awaited g) threads

-- the threads of the row, in that order
pub record IsOrderOf (g : FlatGrammar) (row ordered : List Thread) : Type 0 where
  pub order : IsInOrder g ordered
  pub same : (th : Thread) → Contains ordered th ↔ Contains row th
