-- What an expression is worth, or why it is worth nothing: what the first derivation of its text is.
use Rattle.std.specs.Prelude.{◌≡◌, ℕ, ℤ, List, [], ◌∷◌, Err}
use Rattle.grammar_model.specs.Grammar.{Grammar}
use Rattle.grammar_model.specs.Trees.{Tree}
use Rattle.grammar_model.specs.Steps.{steps_of}
use Rattle.grammar_model.specs.Values.{Token}
use Rattle.grammar_model.specs.declared.Ranking.TheVariants.{Rule}
use Rattle.language_model.specs.Building.{Built}
use Rattle.valuator.specs.Play.{tokens_of}
use Rattle.tree_fold.specs.Values.{HasValue, Fails}
use Rattle.text_reading.specs.Refusals.{IsInputRefusedAt, IsNoDerivation}
use Rattle.slif_parser.specs.declared.error.ParseError.{ParseError}
use Rattle.slif_parser.specs.Errors.{TellsInput}
use Rattle.slif_parser.specs.Views.{Read, DerivationsOf}
use Rattle.slif_parser.specs.Readings.{IsReadAs, AreAll}
use Rattle.calculator.specs.declared.arithmetic.Arithmetic.{Arithmetic}
use Rattle.calculator.specs.declared.arithmetic.Value.{Value}
use Rattle.calculator.specs.declared.arithmetic.Value.TheVariants.{Number}
use Rattle.calculator.specs.declared.error.CalculationError.{CalculationError}
use Rattle.calculator.specs.declared.error.CalculationError.TheVariants.{Parse, NoNumber, NoMemory}
use Rattle.calculator.specs.Worth.{TokenGives, RuleGives, IsNumberOf}

-- the tree has the value, by what tokens and rules give
abbrev pub HasWorth : Grammar → List Token → Tree → (before : Arithmetic) → Value → (after : Arithmetic) → Type 0
HasWorth =
    HasValue (λ s t symbol name token r. TokenGives name token r) (λ s t symbol name r. r ≡ Err NoNumber) (λ s t rule name children r. RuleGives rule children r)

-- the first of the tree's steps that gives no value gives the error
abbrev pub HasError : Grammar → List Token → Tree → (before : Arithmetic) → CalculationError → (after : Arithmetic) → Type 0
HasError g tokens tree =
    Fails (λ s t symbol name token r. TokenGives name token r) (λ s t symbol name r. r ≡ Err NoNumber) (λ s t rule name children r. RuleGives rule children r) g tokens (steps_of tree)

abbrev pub IsTreeWorth : Grammar → List Token → ℤ → Tree → Type 0
IsTreeWorth g tokens n tree = (before : Arithmetic) × (after : Arithmetic) × HasWorth g tokens tree before (Number n) after

-- a step of the tree gives the error, or the tree's value is no number
pub data IsTreeFault (g : Grammar) (tokens : List Token) (e : CalculationError) (tree : Tree) : Type 0 where
  OfStep : (before after : Arithmetic) → HasError g tokens tree before e after → IsTreeFault g tokens e tree
  OfWhole : (before after : Arithmetic) (v : Value) → HasWorth g tokens tree before v after → IsNumberOf v (Err e) → IsTreeFault g tokens e tree

-- P holds of the first derivation of what is read
pub record HasFirst (read : Read) (P : Tree → Type 0) : Type 0 where
  pub derivations : DerivationsOf
  pub of : derivations.read ≡ read
  pub ranked : derivations.iteration.forest.ranking ≡ Rule
  pub first : Tree
  pub others : List Tree
  pub all : AreAll derivations (first ∷ others)
  pub holds : P first

abbrev pub IsFirstWorth : Read → ℤ → Type 0
IsFirstWorth read n = HasFirst read (IsTreeWorth read.grammar.g1 (tokens_of read.characters read.spans) n)

-- the first derivation has the error, or memory ran out
abbrev pub IsFirstFault : Read → CalculationError → Type 0
IsFirstFault read NoMemory = Unit {0}
IsFirstFault read e = HasFirst read (IsTreeFault read.grammar.g1 (tokens_of read.characters read.spans) e)

-- there is no derivation, or the first has the error
pub data IsFaultOfReading (read : Read) (e : CalculationError) : Type 0 where
  OfDerivations : (error : ParseError) → e ≡ Parse error → TellsInput (IsNoDerivation read.grammar read.lexemes Rule read.characters) error → IsFaultOfReading read e
  OfFirst : IsFirstFault read e → IsFaultOfReading read e

-- the text is read, and worth the number
abbrev pub IsWorth : Built → (bytes : List ℕ) → ℤ → Type 0
IsWorth b bytes n = (read : Read) × IsReadAs b [] bytes read × IsFirstWorth read n

-- the text is not read, or what is read is worth nothing
pub data IsFaultOf (b : Built) (bytes : List ℕ) (e : CalculationError) : Type 0 where
  OfInput : (error : ParseError) → e ≡ Parse error → TellsInput (IsInputRefusedAt b [] bytes) error → IsFaultOf b bytes e
  OfReading : (read : Read) → IsReadAs b [] bytes read → IsFaultOfReading read e → IsFaultOf b bytes e
