-- The only thread of a list that waits for a symbol.
use Rattle.std.specs.Prelude.{◌≡◌, ℕ, List, Some, Contains}
use Rattle.recognizer_model.specs.Flat.{FlatGrammar}
use Rattle.recognizer_model.specs.declared.thread.Thread.{Thread}
use Rattle.recognizer_model.specs.Threads.{next}

pub record IsOnly (g : FlatGrammar) (row : List Thread) (x : ℕ) (th : Thread) : Type 0 where
  pub inside : Contains row th
  pub waits : next g th ≡ Some x
  pub only : (other : Thread) → Contains row other → next g other ≡ Some x → other ≡ th
