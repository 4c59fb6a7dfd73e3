-- How far the steps of a flat derivation are written, with the counts that they leave.
use Rattle.std.specs.Prelude.{◌≡◌, ℕ, ◌<◌, ◌≤◌, List, [], ◌∷◌, length, map, take, sum, option_to_list}
use Rattle.grammar_core.specs.declared.steps.TreeStep.{TreeStep}
use Rattle.grammar_core.specs.Steps.{step_of}
use Rattle.grammar_model.specs.Grammar.{Grammar}
use Rattle.grammar_model.specs.Steps.{Step, TokenStep, NulledStep, RuleStep}
use Rattle.recognizer_model.specs.Flat.{FlatGrammar, IsRule}
use Rattle.forest_laws.specs.Written.{sum_newest, older, step_written, counts_after, steps_written}
use Rattle.flat_steps.specs.declared.writing.FlatStep.{FlatStep}
use Rattle.flat_steps.specs.declared.writing.FlatStep.TheVariants as step
use Rattle.flat_steps.specs.declared.writing.CountRow.{CountRow}
use Rattle.flat_steps.specs.declared.writing.Effect.{Effect}
use Rattle.flat_steps.specs.Linked.{IsLinked}

abbrev pub flat_step : FlatStep → Step
flat_step (step.Token symbol from to) = TokenStep symbol from to
flat_step (step.Nulled symbol at) = NulledStep symbol at
flat_step (step.Rule rule children from to) = RuleStep rule children from to

-- its symbol or its rule is one of the grammar's
abbrev pub IsStepOf : FlatGrammar → Step → Type 0
IsStepOf g (TokenStep x from to) = x < length g.symbols
IsStepOf g (NulledStep x at) = x < length g.symbols
IsStepOf g (RuleStep r n from to) = IsRule g r

abbrev pub IsCounted : List CountRow → ℕ → List ℕ → Type 0
IsCounted rows top counts = IsLinked (λ row. row.count) (λ row. row.below) rows top counts

-- these counts are on top, for no more children than there are rows
pub record AreOnTop (rows : List CountRow) (counts : List ℕ) : Type 0 where
  pub counted : IsCounted rows (length rows) counts
  pub few : sum counts ≤ length rows

-- the newest counts are taken off
pub record AreTakenOff (rows : List CountRow) (n : ℕ) (counts : List ℕ) (row : CountRow) : Type 0 where
  pub sum : row.count ≡ sum_newest n counts
  pub rest : IsCounted rows row.below (older n counts)

-- what a step does after others that left these counts
pub record IsEffect (w : Grammar) (g : FlatGrammar) (rows : List CountRow) (counts : List ℕ) (step : Step) (effect : Effect) : Type 0 where
  pub written : map step_of (option_to_list effect.step) ≡ step_written w g counts step
  pub left : List ℕ
  pub below : IsCounted rows effect.row.below left
  pub after : counts_after g counts step ≡ effect.row.count ∷ left

-- the counts that steps leave, on top of others
abbrev pub counts_behind : FlatGrammar → List ℕ → List Step → List ℕ
counts_behind g counts [] = counts
counts_behind g counts (step ∷ steps) = counts_behind g (counts_after g counts step) steps

-- each step has a row, whose stack is what it and those before it leave
pub record AreCounted (g : FlatGrammar) (rows : List CountRow) (done : List Step) : Type 0 where
  pub all : length rows ≡ length done
  pub each : (n : ℕ) → n ≤ length done → IsCounted rows n (counts_behind g [] (take n done))

-- the flat steps are done: written, and counted
pub record AreDone (w : Grammar) (g : FlatGrammar) (rows : List CountRow) (steps : List TreeStep) (done : List Step) : Type 0 where
  pub counted : AreCounted g rows done
  pub written : map step_of steps ≡ steps_written w g [] done
