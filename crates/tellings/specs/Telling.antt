-- What is known where something is told of an input.
use Rattle.std.specs.Prelude.{ℕ, List}
use Rattle.grammar_core.specs.declared.steps.Span.{Span}
use Rattle.earley_sets.specs.Recognizer.{Recognizer}
use Rattle.earley_sets.specs.Counted.{TakesAtMost}
use Rattle.language_model.specs.Building.{Built}
use Rattle.reading_model.specs.Reading.{Piece, End, IsReadingWith}
use Rattle.forest_model.specs.Forest.{Forest}
use Rattle.value_lines.specs.Lines.{IsForestOf}
use Rattle.words_model.specs.Words as words
use Rattle.run_model.specs.Numbers.{Numbers, HasNumbers}
use Rattle.run_model.specs.Telling.{Outcome, Tells, TellsWithin}
pub use Rattle.text_reading.specs.Parts.{HasForest}

-- the characters are read to their end, with these lexemes given, and this is told of them
pub record TellsReading (what : words.Telling) (b : Built) (given cs : List ℕ) (outcome : Outcome) : Type 0 where
  pub pieces : List Piece
  pub reading : IsReadingWith b given cs pieces End
  pub tells : Tells what b cs pieces outcome

-- these are the numbers of the reading that the forest is of
pub record AreNumbersOf (f : Forest) (n : Numbers) : Type 0 where
  pub built : Built
  pub chars : List ℕ
  pub spans : List Span
  pub pieces : List Piece
  pub of : IsForestOf built chars spans f pieces
  pub numbers : HasNumbers built f.ranking pieces n

-- STEPS

-- the characters are read to their end by this recognizer, with these lexemes given, and what is told of them is within its bound
pub record GoesOnWithin (what : words.Telling) (b : Built) (given cs : List ℕ) (recce : Recognizer) (middle after : ℕ) : Type 0 where
  pub pieces : List Piece
  pub reading : IsReadingWith b given cs pieces End
  pub within : (before : ℕ) → TakesAtMost recce before middle → TellsWithin what b pieces before after
