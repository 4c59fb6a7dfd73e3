-- The law at a small pair of grammars: lists of digits.
use Rattle.std.specs.Prelude.{true, false, List, [], ◌∷◌, None, pos}
use Rattle.grammar_model.specs.declared.Assoc.TheVariants.{Left}
use Rattle.grammar_model.specs.Grammar.{Plain, Grammar}
use Rattle.language_model.specs.declared.class.ClassItem.TheVariants.{Span}
use Rattle.language_model.specs.Building.{Built}
use Rattle.reading_model.specs.Reading.{Piece, Ending, IsReading}
use Rattle.flat_model.specs.Lists.{lists}

-- N ::= digit, with the numbers 0 N, 1 digit
abbrev pub digits : Grammar
digits = record { names = []; rules = Plain (record { lhs = 0; rhs = 1 ∷ []; level = 0; groups = 1; assoc = Left; rank = pos 0; null_high = false }) ∷ []; starts = 0 ∷ [] }

-- over the grammar of lists, where N is 3
abbrev pub numbers : Built
numbers = record {
  g1 = lists;
  l0 = digits;
  sets = (1, record { negated = false; caseless = false; items = Span 48 57 ∷ [] }) ∷ [];
  lexemes = record { symbol = 3; start = 0; priority = pos 0; latm = true } ∷ [];
  discards = [];
  meaning = record { rules = []; lexeme = None };
}

-- of a digit and a comma
abbrev pub ReadingApplies : Type 0
ReadingApplies = (pieces : List Piece) × (ending : Ending) × IsReading numbers (49 ∷ 44 ∷ []) pieces ending
