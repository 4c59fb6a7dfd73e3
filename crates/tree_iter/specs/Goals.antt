-- Goals as they are kept, and the stacks of them. A goal is what a walk has left to do, as in Prolog.
use Rattle.std.specs.Prelude.{◌≡◌, ℕ, ◌+◌, ◌<◌, List, [], ◌∷◌, ◌++◌, length, Some, slice_get}
use Rattle.forest_model.specs.Forest.{Forest}
use Rattle.forest_laws.specs.Goals.{Goal, Parts, OneOf, Write, options, IsGoal}
use Rattle.tree_iter.specs.declared.goals.Fork.{Fork}
use Rattle.tree_iter.specs.declared.goals.Fork.TheVariants as fork
use Rattle.tree_iter.specs.declared.goals.Goal.{Goal as HeldGoal}
use Rattle.tree_iter.specs.declared.goals.Goal.TheVariants as goal
use Rattle.tree_iter.specs.declared.goals.GoalRow.{GoalRow}
use Rattle.tree_iter.specs.declared.goals.Opened.{Opened}
use Rattle.tree_iter.specs.declared.goals.Opened.TheVariants as opened
use Rattle.tree_iter.specs.declared.goals.Put.{Put}
use Rattle.bocage.specs.Readers.{node_at}
use Rattle.flat_steps.specs.Linked.{IsLinked, Grows}
use Rattle.flat_steps.specs.Writing.{flat_step, IsStepOf}

abbrev pub fork_of : Fork → Goal
fork_of (fork.Parts node) = Parts node
fork_of (fork.OneOf start end nodes) = OneOf start end nodes.now

abbrev pub goal_of : HeldGoal → Goal
goal_of (goal.Choose fork) = fork_of fork
goal_of (goal.Write step) = Write (flat_step step)

abbrev pub IsStack : List GoalRow → ℕ → List Goal → Type 0
IsStack rows top goals = IsLinked (λ row. goal_of row.goal) (λ row. row.below) rows top goals

-- a goal of the forest, whose step is one of its grammar's
abbrev pub IsReady : Forest → Goal → Type 0
IsReady f (Parts node) = IsGoal f (Parts node)
IsReady f (OneOf start end nodes) = IsGoal f (OneOf start end nodes)
IsReady f (Write step) = IsStepOf f.flat step

-- a goal becomes one step in the end; parts alone become none of their own
abbrev pub unit : Goal → ℕ
unit (Parts node) = 0
unit (OneOf start end nodes) = 1
unit (Write step) = 1

abbrev pub units : List Goal → ℕ
units [] = 0
units (goal ∷ goals) = unit goal + units goals

-- how far a goal has come to be a step that is written
abbrev pub weight : Goal → ℕ
weight (Parts node) = 0
weight (OneOf start end nodes) = 1
weight (Write step) = 2

abbrev pub weights : List Goal → ℕ
weights [] = 0
weights (goal ∷ goals) = weight goal + weights goals

-- to choose an option of parts, their alternatives are looked at once
abbrev pub look : Goal → ℕ
look (Parts node) = 1
look (OneOf start end nodes) = 0
look (Write step) = 0

-- the goal whose options lie open
abbrev pub goal_opened : Opened → Goal
goal_opened (opened.Parts node alternatives) = Parts node
goal_opened (opened.OneOf start end nodes) = OneOf start end nodes.now

-- they are those of the forest
abbrev pub IsOpened : Forest → Opened → Type 0
IsOpened f (opened.Parts node alternatives) = alternatives ≡ (node_at f node).alternatives
IsOpened f (opened.OneOf start end nodes) = Unit {0}

-- after parts there is a goal that becomes a step
abbrev pub IsBacked : Goal → List Goal → Type 0
IsBacked goal behind = 0 < unit goal + units behind

abbrev pub AreReady : Forest → List Goal → Type 0
AreReady f [] = Unit {0}
AreReady f (goal ∷ goals) = IsReady f goal × IsBacked goal goals × AreReady f goals

-- goals were put on top of a stack
pub record Puts (old new : List GoalRow) (behind top : ℕ) (goals : List Goal) : Type 0 where
  pub grows : Grows old new
  pub stack : (below : List Goal) → IsStack old behind below → IsStack new top (goals ++ below)

-- so was an option of a goal, which has so many
pub record PutsOption (f : Forest) (goal : Goal) (old new : List GoalRow) (at behind : ℕ) (put : Put) : Type 0 where
  pub option : List Goal
  pub option_is : slice_get (options f goal) at ≡ Some option
  pub count : put.count ≡ length (options f goal)
  pub puts : Puts old new behind put.top option
