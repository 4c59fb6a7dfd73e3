-- Lexemes that a job is given by their names, which are supplied where reading is stuck. Each name has to be that of a lexeme of the
-- grammars, as it is printed.
-- Source: the Ruby Slippers of the Marpa::R2 manual; the text is our own.
use Rattle.std.specs.Prelude.{◌≡◌, ℕ, ◌++◌, List, [], map, All, Contains, codes}
use Rattle.grammar_model.specs.Values.{name_of}
use Rattle.language_model.specs.Building.{Built, LexemeRow}
use Rattle.reading_model.specs.First.{IsFirstWith}
use Rattle.words_model.specs.Words.{Task}
use Rattle.words_model.specs.Words.Task.{Check, Tell, Work, Script}
use Rattle.run_model.specs.Refused.{Accepted, IsRefused}

abbrev pub IsLexeme : Built → ℕ → Type 0
IsLexeme b symbol = (l : LexemeRow) × Contains b.lexemes l × (l.symbol ≡ symbol)

-- a lexeme has the name
abbrev pub NamesLexeme : Built → List ℕ → Type 0
NamesLexeme b name = (symbol : ℕ) × IsLexeme b symbol × (name_of b.g1 symbol ≡ name)

abbrev pub NamesNoLexeme : Built → List ℕ → Type 0
NamesNoLexeme b name = NamesLexeme b name → ⊥

-- the lexemes with these names, in the same order
pub record AreGiven (b : Built) (names : List (List ℕ)) (symbols : List ℕ) : Type 0 where
  pub named : map (name_of b.g1) symbols ≡ names
  pub lexemes : All (IsLexeme b) symbols

-- the bytes have these grammars, which are accepted, and each name is a lexeme's
pub record AcceptedFor (names : List (List ℕ)) (bytes : List ℕ) (b : Built) : Type 0 where
  pub accepted : Accepted bytes b
  pub lexemes : All (NamesLexeme b) names

abbrev pub unnamed_text : List ℕ → List ℕ
unnamed_text name = codes "grammar: " ++ (name ++ codes " is not a lexeme")

-- the bytes are refused with this text, by cases in order: whatever the job is, or for the first name that is no lexeme's
pub data IsRefusedFor (names : List (List ℕ)) (bytes text : List ℕ) : Type 0 where
  ForGrammar : IsRefused bytes text → IsRefusedFor names bytes text
  ForName : (b : Built) → Accepted bytes b → (name : List ℕ) → IsFirstWith (NamesNoLexeme b) names name →
      text ≡ unnamed_text name → IsRefusedFor names bytes text

-- the names that a task gives
abbrev pub names_of : Task → List (List ℕ)
names_of Check = []
names_of (Tell given what) = given
names_of (Work size) = []
names_of Script = []
