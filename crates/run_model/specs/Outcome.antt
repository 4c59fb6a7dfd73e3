-- WHAT A RUN WRITES AND ANSWERS, by its words, the bytes of the grammar and those of the input.
use Rattle.std.specs.Prelude.{◌≡◌, ℕ, ◌<◌, List, [], ◌∷◌, ◌++◌, length, chars, codes, decimal}
use Rattle.grammar_model.specs.Trees.{Tree}
use Rattle.grammar_model.specs.declared.Ranking.TheVariants.{Rule as RuleRanks}
use Rattle.grammar_model.specs.declared.limits.TheConstants.{LONGEST_INPUT}
use Rattle.language_model.specs.Building.{Built}
use Rattle.reading_model.specs.Reading.{Piece}
use Rattle.words_model.specs.Words.{Telling, Task, Job, Asks, AskNothing, usage_text}
use Rattle.words_model.specs.Words.Task.{Check, Tell, Work, Script}
use Rattle.script_model.specs.Script.{AreAnswers}
use Rattle.run_model.specs.Refused.{Accepted}
use Rattle.run_model.specs.Given.{AreGiven, AcceptedFor, IsRefusedFor}
use Rattle.run_model.specs.Checking.{AreCheckLines}
use Rattle.run_model.specs.Inputs.{IsInputText, IsBrokenInput, IsRead, IsInputRefused, longer_text}
use Rattle.run_model.specs.Listing.{AreDerivations}
use Rattle.run_model.specs.Numbers.{Numbers, HasNumbers}
use Rattle.run_model.specs.Jobs.{work_grammar, work_input}
use Rattle.run_model.specs.Telling.{work_line}
pub use Rattle.run_model.specs.Telling.{Outcome, message, refused, done, Tells}

abbrev pub usage : Outcome
usage = refused 2 usage_text

-- the outcome of `check` over accepted grammars
pub record IsCheckOutcome (b : Built) (outcome : Outcome) : Type 0 where
  pub lines : List (List ℕ)
  pub are : AreCheckLines b lines
  pub is : outcome ≡ done lines

-- the outcome of what is told of an input over accepted grammars, by cases in order: the input is refused, or its pieces are told of
pub data IsInputOutcome (what : Telling) (b : Built) (given input : List ℕ) (outcome : Outcome) : Type 0 where
  InputRefused : (text : List ℕ) → IsInputRefused b given input text → outcome ≡ refused 1 text →
      IsInputOutcome what b given input outcome
  InputRead : (pieces : List Piece) → IsRead b given input pieces →
      Tells what b (chars input) pieces outcome → IsInputOutcome what b given input outcome

-- where the lexemes with these names are given
abbrev pub IsNamedOutcome : Telling → (names : List (List ℕ)) → Built → (input : List ℕ) → Outcome → Type 0
IsNamedOutcome what names b input outcome =
    (given : List ℕ) × AreGiven b names given × IsInputOutcome what b given input outcome

-- the outcome of a task that has a grammar and these names, by cases in order: the grammar is refused, or this comes of it
pub data IsGrammarOutcome (names : List (List ℕ)) (grammar : List ℕ) (IsOver : Built → Outcome → Type 0) (outcome : Outcome) : Type 0 where
  GrammarRefused : (text : List ℕ) → IsRefusedFor names grammar text → outcome ≡ refused 3 text →
      IsGrammarOutcome names grammar IsOver outcome
  GrammarAccepted : (b : Built) → AcceptedFor names grammar b → IsOver b outcome →
      IsGrammarOutcome names grammar IsOver outcome

-- the outcome of `work`: its grammar is accepted, its input is read to its end and has one derivation, and a line tells the numbers
pub record IsWorkOutcome (size : ℕ) (outcome : Outcome) : Type 0 where
  pub built : Built
  pub accepted : Accepted work_grammar built
  pub pieces : List Piece
  pub read : IsRead built [] (work_input size) pieces
  pub tree : Tree
  pub one : AreDerivations built RuleRanks pieces (tree ∷ [])
  pub numbers : Numbers
  pub has : HasNumbers built RuleRanks pieces numbers
  pub is : outcome ≡ done (work_line size numbers 1 ∷ [])

-- the outcome of `script`, by cases in order: the input is no text, or the lines of its text are answered
pub data IsScriptOutcome (input : List ℕ) (outcome : Outcome) : Type 0 where
  TooLong : LONGEST_INPUT < length input → outcome ≡ refused 1 (longer_text LONGEST_INPUT) → IsScriptOutcome input outcome
  NotUtf8 : (at : ℕ) → IsBrokenInput LONGEST_INPUT input at → outcome ≡ refused 1 (codes "input is not UTF-8 at byte " ++ decimal at) → IsScriptOutcome input outcome
  Answered : (answers : List (List ℕ)) → IsInputText LONGEST_INPUT input → AreAnswers input answers → outcome ≡ done answers → IsScriptOutcome input outcome

abbrev pub IsTaskOutcome : Task → (grammar input : List ℕ) → Outcome → Type 0
IsTaskOutcome Check grammar input outcome = IsGrammarOutcome [] grammar IsCheckOutcome outcome
IsTaskOutcome (Tell names what) grammar input outcome =
    IsGrammarOutcome names grammar (λ b. IsNamedOutcome what names b input) outcome
IsTaskOutcome (Work size) grammar input outcome = IsWorkOutcome size outcome
IsTaskOutcome Script grammar input outcome = IsScriptOutcome input outcome

-- the outcome of the words, the grammar and the input, by cases in order
pub data IsOutcome (words : List (List ℕ)) (grammar input : List ℕ) (outcome : Outcome) : Type 0 where
  NoJob : AskNothing words → outcome ≡ usage → IsOutcome words grammar input outcome
  OfJob : (job : Job) → Asks words job → IsTaskOutcome job.task grammar input outcome → IsOutcome words grammar input outcome
