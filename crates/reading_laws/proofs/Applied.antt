-- The law at a small pair of grammars.
use Rattle.std.proofs.Common.{arith, ◌≡◌, zero, suc, [], ◌∷◌, Contains, sym, ◌∙◌, ap}
use Rattle.language_model.specs.Building.{LexemeRow}
use Rattle.flat_rules.proofs.ListsChecked.{lists_have_flat_grammar}
use Rattle.reading_laws.specs.Laws.{LexemesAreNamed}
use Rattle.reading_laws.specs.Applied.{numbers, ReadingApplies}
use Rattle.reading_laws.proofs.Reading.{reading_exists}

-- the one lexeme
symbol_is : (l : LexemeRow) → Contains numbers.lexemes l → 3 ≡ l.symbol
symbol_is l (zero, lt, e) = ap (λ (r : LexemeRow). r.symbol) e
symbol_is l (suc k, lt, e) = absurd (omega (arith, lt))

named : LexemesAreNamed numbers
named l m c d e = sym (symbol_is l c) ∙ symbol_is m d

pub reading_applies : ReadingApplies
reading_applies = reading_exists numbers [] (49 ∷ 44 ∷ []) lists_have_flat_grammar.checked named
