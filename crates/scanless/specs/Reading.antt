-- What reading a text gives: a recognizer that holds the edges of its tokens, the spans of the tokens, and how reading ends.
use Rattle.std.specs.Prelude.{◌≡◌, ◌⊎◌, ℕ, ◌<◌, ◌≤◌, ◌↔◌, List, [], length, map, Option, Some, None, Contains}
use Rattle.std.specs.declared.vec.Vec.{Vec}
use Rattle.std.specs.declared.alloc.Global.{Global}
use Rattle.grammar_core.specs.declared.steps.Span.{Span}
use Rattle.flat_model.specs.Flattened.{IsFlattened}
use Rattle.earley_sets.specs.Recognizer.{Recognizer, earleme_of}
use Rattle.language_model.specs.Building.{Built}
use Rattle.reading_model.specs.Reading as model
use Rattle.reading_model.specs.Reading.{Piece, earleme_after, edges_of, spans_from, AreFound, IsKept, IsKeptNone, IsSkipped, TakesNothing, HasDerivation, MaySupply, supplied_behind, ReadsWith, IsReadingWith}
use Rattle.reading_model.specs.First.{HasNone}
use Rattle.scanless.specs.declared.reading.Ending.{Ending}
use Rattle.scanless.specs.declared.reading.Ending.TheVariants.{End, Stopped}
use Rattle.scanless.specs.declared.kept.Choice.{Choice}
use Rattle.scanless.specs.declared.kept.Choice.TheVariants.{Token, Skipped, Nothing}

-- how reading ends, as its definition has it
abbrev pub ending_of : Ending → model.Ending
ending_of End = model.End
ending_of (Stopped at found expected) = model.Stopped at found.items expected.items

abbrev pub span_of : Span → ℕ × ℕ
span_of s = (s.start, s.length)

-- a recognizer for the structural grammar's start holds the edges of the pieces and stands after them
pub record HoldsPieces (b : Built) (pieces : List Piece) (recce : Recognizer) : Type 0 where
  pub flat : IsFlattened b.g1 recce.flat
  pub start : recce.start ≡ 0
  pub edges : recce.edges ≡ edges_of pieces
  pub place : earleme_of recce ≡ earleme_after pieces

-- the reading of a text, with these lexemes given
pub record IsReadingOfWith (b : Built) (given text : List ℕ) (recce : Recognizer) (spans : List Span) (ending : Ending) : Type 0 where
  pub pieces : List Piece
  pub is_reading : IsReadingWith b given text pieces (ending_of ending)
  pub holds : HoldsPieces b pieces recce
  pub spans_are : map span_of spans ≡ spans_from 0 pieces

-- with none given
abbrev pub IsReadingOf : Built → List ℕ → Recognizer → List Span → Ending → Type 0
IsReadingOf b = IsReadingOfWith b []

-- what is read up to a character
pub record HasRead (b : Built) (given text : List ℕ) (pieces : List Piece) (at : ℕ) (recce : Recognizer) (spans : List Span) : Type 0 where
  pub reads : ReadsWith b given text at pieces
  pub within : at ≤ length text
  pub holds : HoldsPieces b pieces recce
  pub spans_are : map span_of spans ≡ spans_from 0 pieces

-- READING, AS FAR AS IT HAS COME

-- what a reader is seen as; it is before the character `at`
pub record ReadSoFar : Type 0 where
  pub grammar : Built
  pub recce : Recognizer
  pub spans : List Span
  pub at : ℕ

-- it has read the text so far, with these lexemes given
pub record IsReader (given text : List ℕ) (r : ReadSoFar) : Type 0 where
  pub pieces : List Piece
  pub has_read : HasRead r.grammar given text pieces r.at r.recce r.spans

-- what was read stays as it is, or there are more characters, after the last of which nothing was supplied
abbrev pub IsSameOrLonger : (before after : List Piece) → (from at : ℕ) → Type 0
IsSameOrLonger before after from at = ((at ≡ from) × (after ≡ before)) ⊎ ((from < at) × (supplied_behind after ≡ []))

-- from these pieces it has gone on
pub record GoesOn (given text : List ℕ) (before : List Piece) (old new : ReadSoFar) : Type 0 where
  pub pieces : List Piece
  pub has_read : HasRead new.grammar given text pieces new.at new.recce new.spans
  pub same_or : IsSameOrLonger before pieces old.at new.at

-- the text goes on, and nothing can be taken; these are the lexemes that are found
pub record StopsWith (b : Built) (text : List ℕ) (pieces : List Piece) (at : ℕ) (found : List ℕ) : Type 0 where
  pub more : at < length text
  pub none : TakesNothing b text pieces at
  pub are_found : AreFound b text pieces at found

-- the text is read to its end, or nothing can be taken
abbrev pub RestsWith : Built → List ℕ → List Piece → (at : ℕ) → Option (Vec ℕ Global) → Type 0
RestsWith b text pieces at None = at ≡ length text
RestsWith b text pieces at (Some found) = StopsWith b text pieces at found.items

-- reading rests there
pub record IsResting (given text : List ℕ) (r : ReadSoFar) (found : Option (Vec ℕ Global)) : Type 0 where
  pub pieces : List Piece
  pub has_read : HasRead r.grammar given text pieces r.at r.recce r.spans
  pub rests : RestsWith r.grammar text pieces r.at found

-- from these pieces it has gone on to there
abbrev pub ComesToRest : (given text : List ℕ) → (before : List Piece) → (old new : ReadSoFar) → Option (Vec ℕ Global) → Type 0
ComesToRest given text before old new found = (rests : IsResting given text new found) × IsSameOrLonger before rests.pieces old.at new.at

-- and no lexeme may be supplied; where the text is read, it is enough that the tokens have a derivation
abbrev pub IsOver : Built → (given : List ℕ) → List Piece → Option (Vec ℕ Global) → Type 0
IsOver b given pieces None = HasDerivation b pieces ⊎ HasNone (MaySupply b pieces) given
IsOver b given pieces (Some found) = HasNone (MaySupply b pieces) given

-- what is chosen of the longest match
abbrev pub IsChosen : Built → (text : List ℕ) → List Piece → (at n : ℕ) → (kept : List ℕ) → Choice → Type 0
IsChosen b text pieces at n kept Token = (0 < length kept) × ((symbol : ℕ) → Contains kept symbol ↔ IsKept b text pieces at n symbol)
IsChosen b text pieces at n kept Skipped = IsKeptNone b text pieces at n × IsSkipped b text pieces at n
IsChosen b text pieces at n kept Nothing = IsKeptNone b text pieces at n × (IsSkipped b text pieces at n → ⊥)
