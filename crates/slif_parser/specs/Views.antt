-- How an input, its forest and its derivations are seen.
use Rattle.std.specs.Prelude.{ℕ, ◌≤◌, Bool, List, IfSome, length}
use Rattle.grammar_model.specs.Trees.{Tree}
use Rattle.grammar_model.specs.Steps.{Step}
use Rattle.grammar_model.specs.declared.limits.TheConstants.{LONGEST_INPUT}
use Rattle.grammar_core.specs.declared.steps.Span.{Span}
use Rattle.language_model.specs.Building.{Built}
use Rattle.earley_sets.specs.Recognizer.{Recognizer}
use Rattle.forest_model.specs.Forest.{Forest}
use Rattle.scanless.specs.Reading.{IsReadingOfWith}
use Rattle.scanless.specs.declared.reading.Ending.TheVariants.{End}
use Rattle.tree_iter.specs.Iteration.{Iteration, AreGiven}
use Rattle.valuator.specs.Play.{AreSpans, AreSteps}
use Rattle.text_reading.specs.Parts.{HasForest}

-- an input that is read to its end: the grammar, the lexemes that were given, the characters, and where the tokens lie
pub record Read : Type 0 where
  pub grammar : Built
  pub lexemes : List ℕ
  pub characters : List ℕ
  pub spans : List Span

pub record ForestOf : Type 0 where
  pub read : Read
  pub forest : Forest

pub record DerivationsOf : Type 0 where
  pub read : Read
  pub iteration : Iteration

-- the steps of the first derivation, and whether it is the only one
pub record FirstOf : Type 0 where
  pub read : Read
  pub steps : List Step
  pub only : Bool

-- the recognizer and the spans are those of the characters' reading, with these lexemes given
pub record IsHeld (b : Built) (lexemes cs : List ℕ) (recce : Recognizer) (spans : List Span) : Type 0 where
  pub few : length cs ≤ LONGEST_INPUT
  pub reading : IsReadingOfWith b lexemes cs recce spans End

-- the iterator gives derivations of the characters, and stands at one, if at all
pub record IsUnderWay (b : Built) (lexemes cs : List ℕ) (spans : List Span) (it : Iteration) : Type 0 where
  pub has : HasForest b lexemes it.forest.ranking cs spans it.forest
  pub given : List Tree
  pub are : AreGiven it given
  pub steps : IfSome it.current (AreSteps b.g1 (length spans))

-- the steps can be told, and the tokens lie among the characters
pub record CanBePlayed (b : Built) (cs : List ℕ) (spans : List Span) (list : List Step) : Type 0 where
  pub lie : AreSpans (length cs) spans
  pub told : AreSteps b.g1 (length spans) list
