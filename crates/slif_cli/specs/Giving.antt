-- What is known where names are given of which one is no lexeme's.
use Rattle.std.specs.Prelude.{◌≡◌, ℕ, List, ⊤}
use Rattle.language_model.specs.Building.{Built}
use Rattle.reading_model.specs.First.{IsFirstWith}
use Rattle.run_model.specs.Given.{NamesNoLexeme, unnamed_text}
use Rattle.tellings.specs.Stops.{StopsBy, OfGrammar}
use Rattle.tellings.specs.declared.stop.Stop.{Stop}

-- the first of the names that is no lexeme's, and what is told of it
pub record IsUnnamed (b : Built) (names : List (List ℕ)) (text : List ℕ) : Type 0 where
  pub name : List ℕ
  pub first : IsFirstWith (NamesNoLexeme b) names name
  pub told : text ≡ unnamed_text name

-- where not all names are those of lexemes, or there is no memory
abbrev pub NamesStop : Built → (names : List (List ℕ)) → Stop → Type 0
NamesStop b names = StopsBy (OfGrammar (IsUnnamed b names)) (λ name. ⊥) ⊥ ⊥ ⊤
