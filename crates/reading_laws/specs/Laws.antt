-- That each text has a reading.
use Rattle.std.specs.Prelude.{◌≡◌, ℕ, List, Contains}
use Rattle.finite_sets.specs.Decided.{IsDecided}
use Rattle.grammar_model.specs.Values.{name_of}
use Rattle.grammar_model.specs.Checked.{IsChecked}
use Rattle.language_model.specs.Building.{Built, LexemeRow}
use Rattle.reading_model.specs.Matches.{Matches}
use Rattle.reading_model.specs.Reading.{Piece, Ending, IsReadingWith}

-- whether a start of the lexical grammar matches the characters between two places
abbrev pub MatchesAreDecided : Type 0
MatchesAreDecided = (b : Built) (text : List ℕ) (start from to : ℕ) → IsDecided (Matches b text start from to)

-- lexemes with the same name are the same symbol
abbrev pub LexemesAreNamed : Built → Type 0
LexemesAreNamed b = (l m : LexemeRow) → Contains b.lexemes l → Contains b.lexemes m → name_of b.g1 l.symbol ≡ name_of b.g1 m.symbol → l.symbol ≡ m.symbol

abbrev pub ReadingExists : Type 0
ReadingExists = (b : Built) (given text : List ℕ) → IsChecked b.g1 → LexemesAreNamed b → (pieces : List Piece) × (ending : Ending) × IsReadingWith b given text pieces ending
