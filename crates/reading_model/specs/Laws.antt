-- Laws of reading.
use Rattle.std.specs.Prelude.{◌≡◌, ◌≢◌, ℕ, ◌+◌, ◌*◌, ◌≤◌, List, length, AllPairs, Contains}
use Rattle.language_model.specs.Building.{Built}
use Rattle.reading_model.specs.Accepted.{IsAccepted, GrammarFault, HasGrammarFault}
use Rattle.reading_model.specs.Reading.{Piece, Ending, ReadsWith, IsReadingWith, supplied_behind, earleme_after}

-- grammars that are accepted have no fault, and none has two
abbrev pub AcceptedHaveNoFault : Type 0
AcceptedHaveNoFault = (b : Built) (fault : GrammarFault) → IsAccepted b → HasGrammarFault b fault → ⊥

abbrev pub GrammarFaultIsOne : Type 0
GrammarFaultIsOne = (b : Built) (x y : GrammarFault) → HasGrammarFault b x → HasGrammarFault b y → x ≡ y

-- a text is read in one way at most, whatever lexemes are given
abbrev pub ReadingIsOne : Type 0
ReadingIsOne = (b : Built) (given text : List ℕ) (pieces others : List Piece) (x y : Ending) → IsReadingWith b given text pieces x → IsReadingWith b given text others y → (pieces ≡ others) × (x ≡ y)

-- what is supplied at one character: different ones of those given
pub record IsOnce (given supplied : List ℕ) : Type 0 where
  pub differ : AllPairs (λ x y. x ≢ y) supplied
  pub among : (x : ℕ) → Contains supplied x → Contains given x

abbrev pub SuppliedOnce : Type 0
SuppliedOnce = (b : Built) (given text : List ℕ) (at : ℕ) (pieces : List Piece) → ReadsWith b given text at pieces → IsOnce given (supplied_behind pieces)

-- so there are no more tokens than characters, and for each character and the end as many as lexemes are given
abbrev pub TokensAreFew : Type 0
TokensAreFew = (b : Built) (given text : List ℕ) (at : ℕ) (pieces : List Piece) → ReadsWith b given text at pieces →
    (earleme_after pieces ≤ at + at * length given + length (supplied_behind pieces)) × (length (supplied_behind pieces) ≤ length given)
