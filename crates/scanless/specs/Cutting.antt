-- What one piece of a text is, as a program takes it.
use Rattle.std.specs.Prelude.{◌≡◌, ℕ, ◌<◌, ◌↔◌, List, length, Contains}
use Rattle.std.specs.List.Sorted.{IsStrictlySortedBy}
use Rattle.std.specs.Ordering.{nat_cmp}
use Rattle.language_model.specs.Building.{Built}
use Rattle.reading_model.specs.Reading as model
use Rattle.reading_model.specs.Reading.{IsLongest, IsKept, IsKeptNone, IsSkipped, TakesNothing, AreFound, AreExpected}
use Rattle.earley_sets.specs.Recognizer.{Recognizer, IsExpected}
use Rattle.scanless.specs.Taking.{Takes}
use Rattle.scanless.specs.declared.piece.Piece.{Piece}
use Rattle.scanless.specs.declared.piece.Piece.TheVariants.{Token, Skipped, Stuck}
use Rattle.scanless.specs.declared.piece.Cut.{Cut}
use Rattle.scanless.specs.declared.piece.Cut.TheVariants as cut

-- the recognizer has taken a token, as each of the lexemes that are kept
pub record TakesToken (b : Built) (text : List ℕ) (pieces : List model.Piece) (at n : ℕ) (old new : Recognizer) : Type 0 where
  pub symbols : List ℕ
  pub some : 0 < length symbols
  pub sorted : IsStrictlySortedBy nat_cmp symbols
  pub longest : IsLongest b text pieces at n
  pub exact : (symbol : ℕ) → Contains symbols symbol ↔ IsKept b text pieces at n symbol
  pub takes : Takes old new symbols

abbrev pub IsPiece : Built → List ℕ → List model.Piece → (at : ℕ) → (old new : Recognizer) → Piece → Type 0
IsPiece b text pieces at old new (Token n) = TakesToken b text pieces at n old new
IsPiece b text pieces at old new (Skipped n) = IsLongest b text pieces at n × IsKeptNone b text pieces at n × IsSkipped b text pieces at n × (new ≡ old)
IsPiece b text pieces at old new (Stuck found expected) = TakesNothing b text pieces at × AreFound b text pieces at found.items × AreExpected b pieces expected.items × (new ≡ old)

abbrev pub IsCut : Built → List ℕ → List model.Piece → (at : ℕ) → (old new : Recognizer) → Cut → Type 0
IsCut b text pieces at old new (cut.Token n) = TakesToken b text pieces at n old new
IsCut b text pieces at old new (cut.Skipped n) = IsLongest b text pieces at n × IsKeptNone b text pieces at n × IsSkipped b text pieces at n × (new ≡ old)
IsCut b text pieces at old new (cut.Stuck found) = TakesNothing b text pieces at × AreFound b text pieces at found.items × (new ≡ old)

-- whatever the recognizer holds: it has taken symbols that it expected, or it is as before
abbrev pub HasTaken : Recognizer → Recognizer → Type 0
HasTaken old new = (symbols : List ℕ) × ((s : ℕ) → Contains symbols s → IsExpected old s) × Takes old new symbols

abbrev pub Moves : (old new : Recognizer) → Piece → Type 0
Moves old new (Token n) = HasTaken old new
Moves old new (Skipped n) = new ≡ old
Moves old new (Stuck found expected) = new ≡ old

abbrev pub CutMoves : (old new : Recognizer) → Cut → Type 0
CutMoves old new (cut.Token n) = HasTaken old new
CutMoves old new (cut.Skipped n) = new ≡ old
CutMoves old new (cut.Stuck found) = new ≡ old
