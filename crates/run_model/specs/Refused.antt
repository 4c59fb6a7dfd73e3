-- What a grammar's bytes have to be, whatever the job is: a text whose description has no fault, and whose grammars are accepted.
-- Why other bytes are refused is told in one line.
-- Source: the Libmarpa manual (errors of precomputation); the texts are our own.
use Rattle.std.specs.Prelude.{◌≡◌, ℕ, ◌++◌, List, ◌∷◌, true, false, chars, codes}
pub use Rattle.grammar_model.specs.Refusals.{listed, left_name, refusal_text}
use Rattle.language_model.specs.Description.{Statement}
use Rattle.language_model.specs.Building.{Built, BuildFault, BadAdverb, RepeatedAdverb, LexemeNotDefined, InBoth, NotALexeme, BadClass, TwoStarts, NumberRange, TooLong, faults_of}
use Rattle.language_model.specs.Texts.{HasDescription, IsBuiltOf}
use Rattle.reading_model.specs.Accepted.{IsAccepted, GrammarFault, Structural, Lexical, TooManyRules, HasGrammarFault}
use Rattle.run_model.specs.Texts.{TextFault, HasFault, fault_text, place_text}

-- the bytes have these grammars, which are accepted
pub record Accepted (bytes : List ℕ) (b : Built) : Type 0 where
  pub description : List Statement
  pub has : HasDescription bytes description
  pub built : IsBuiltOf description b
  pub accepted : IsAccepted b

-- TEXTS

abbrev pub at_place : List ℕ → ℕ → List ℕ
at_place cs at = codes " at " ++ place_text cs at

-- what is told of a fault of the description of these characters
abbrev pub build_text : List ℕ → BuildFault → List ℕ
build_text cs (BadAdverb f) = codes "bad adverb " ++ (f.name ++ at_place cs f.at)
build_text cs (RepeatedAdverb f) = codes "repeated " ++ (f.name ++ at_place cs f.at)
build_text cs (LexemeNotDefined f) = codes "no rule for " ++ (f.name ++ at_place cs f.at)
build_text cs (InBoth f) = f.name ++ (codes " has rules of both levels" ++ at_place cs f.at)
build_text cs (NotALexeme f) = f.name ++ (codes " is not a lexeme" ++ at_place cs f.at)
build_text cs (BadClass f) = codes "bad class " ++ (f.name ++ at_place cs f.at)
build_text cs (TwoStarts f) = codes "second start" ++ at_place cs f.at
build_text cs (NumberRange f) = codes "number out of range" ++ at_place cs f.at
build_text cs (TooLong f) = codes "too long" ++ at_place cs f.at

abbrev pub grammar_text : Built → GrammarFault → List ℕ
grammar_text b (Structural refusal) = codes "grammar: " ++ refusal_text b.g1 refusal
grammar_text b (Lexical refusal) = codes "lexical grammar: " ++ refusal_text b.l0 refusal
grammar_text b (TooManyRules false) = codes "grammar: more than 65536 flat rules"
grammar_text b (TooManyRules true) = codes "lexical grammar: more than 65536 flat rules"

-- the bytes are refused with this text, by cases in order: they say nothing, or they have a description with a fault, of which the
-- first is told, or their grammars are not accepted
pub data IsRefused (bytes text : List ℕ) : Type 0 where
  ByText : (fault : TextFault) → HasFault bytes fault → text ≡ fault_text bytes fault → IsRefused bytes text
  ByDescription : (d : List Statement) → HasDescription bytes d → (fault : BuildFault) (others : List BuildFault) → faults_of d ≡ fault ∷ others →
      text ≡ codes "grammar: " ++ build_text (chars bytes) fault → IsRefused bytes text
  ByGrammars : (d : List Statement) → HasDescription bytes d → (b : Built) → IsBuiltOf d b → (fault : GrammarFault) → HasGrammarFault b fault →
      text ≡ grammar_text b fault → IsRefused bytes text
