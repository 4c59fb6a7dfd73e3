-- What is known of a reader and of who supplies it.
use Rattle.std.specs.Prelude.{◌≡◌, ℕ, ◌≤◌, List, Option}
use Rattle.std.specs.declared.vec.Vec.{Vec}
use Rattle.std.specs.declared.alloc.Global.{Global}
use Rattle.reading_model.specs.Reading.{Piece, supplied_behind}
use Rattle.scanless.specs.Reading.{ReadSoFar, HasRead, IsResting, IsOver}
use Rattle.slippers.specs.Stock.{Stock, given_at}

-- the supplier was asked at no later place, and knows what was supplied at this one
pub record Remembers (stock : Stock) (at : ℕ) (pieces : List Piece) : Type 0 where
  pub so_far : stock.place ≤ at
  pub same : given_at stock at ≡ supplied_behind pieces

-- the text is read so far with what the supplier has
pub record IsSupplied (text : List ℕ) (r : ReadSoFar) (stock : Stock) : Type 0 where
  pub pieces : List Piece
  pub has_read : HasRead r.grammar stock.names text pieces r.at r.recce r.spans
  pub remembers : Remembers stock r.at pieces

-- reading rests, and is over
abbrev pub IsReadOver : (given text : List ℕ) → ReadSoFar → Option (Vec ℕ Global) → Type 0
IsReadOver given text r found = (rests : IsResting given text r found) × IsOver r.grammar given rests.pieces found
