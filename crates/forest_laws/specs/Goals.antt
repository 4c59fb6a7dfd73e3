-- A walk through a forest that writes the steps of a derivation. What is left to do is a list of goals; a goal is done by choosing
-- one of its options, which is a list of goals again. The predecessor is walked before the cause, and the children before their
-- rule. Goals and choices are Prolog's words for such a search, depth first with backtracking.
use Rattle.std.specs.Prelude.{◌≡◌, ℕ, ◌<◌, List, [], ◌∷◌, ◌++◌, map, length, Option, Some, None, slice_get, Contains}
use Rattle.std.specs.List.{flat_map}
use Rattle.grammar_model.specs.Steps.{Step, TokenStep, NulledStep, RuleStep, steps_of, steps_of_all}
use Rattle.recognizer_model.specs.Flat.{lhs_of}
use Rattle.forest_model.specs.Forest.{Cause, AnEdge, Nothing, Wholes, Alternative, ForestNode, Forest, top_of}
use Rattle.forest_laws.specs.Lists.{Lists, cause_symbol, rule_of, whole_by}

-- a goal, as Prolog has it: the parts of a node, a whole rule of these over the span, or a step to be written
pub data Goal : Type 0 where
  Parts : (node : ℕ) → Goal
  OneOf : (start end : ℕ) (nodes : List ℕ) → Goal
  Write : (step : Step) → Goal

-- how many parts a node has
abbrev pub count_of : Option ForestNode → ℕ
count_of None = 0
count_of (Some node) = node.key.dot

-- what is left to do for the predecessor of an alternative, for its cause, and for both
abbrev pub predecessor_goals : Option ℕ → List Goal
predecessor_goals None = []
predecessor_goals (Some n) = Parts n ∷ []

abbrev pub cause_goals : (symbol start end : ℕ) → Cause → List Goal
cause_goals symbol start end AnEdge = Write (TokenStep symbol start end) ∷ []
cause_goals symbol start end Nothing = Write (NulledStep symbol start) ∷ []
cause_goals symbol start end (Wholes nodes) = OneOf start end nodes ∷ []

-- the parts of a whole rule, and then its step
abbrev pub whole_goals : Forest → (start end node : ℕ) → List Goal
whole_goals f start end n = Parts n ∷ Write (RuleStep (rule_of (slice_get f.nodes n)) (count_of (slice_get f.nodes n)) start end) ∷ []

abbrev pub alternative_goals : Forest → ForestNode → Alternative → List Goal
alternative_goals f node a = predecessor_goals a.predecessor ++ cause_goals (cause_symbol f node.key) a.start node.key.end a.cause

-- an option for each alternative of a node
abbrev pub node_options : Forest → Option ForestNode → List (List Goal)
node_options f None = []
node_options f (Some node) = map (alternative_goals f node) node.alternatives

-- the options of a goal, in the declared order; a step is written without a choice
abbrev pub options : Forest → Goal → List (List Goal)
options f (Parts n) = node_options f (slice_get f.nodes n)
options f (OneOf start end nodes) = map (whole_goals f start end) nodes
options f (Write step) = []

-- its nodes are nodes of the forest
abbrev pub IsGoal : Forest → Goal → Type 0
IsGoal f (Parts n) = n < length f.nodes
IsGoal f (OneOf start end nodes) = (0 < length nodes) × ((n : ℕ) → Contains nodes n → n < length f.nodes)
IsGoal f (Write step) = Unit {0}

abbrev pub AreGoals : Forest → List Goal → Type 0
AreGoals f [] = Unit {0}
AreGoals f (goal ∷ goals) = IsGoal f goal × AreGoals f goals

-- the goals of the whole
abbrev pub root_goals : Forest → Option ℕ → List Goal
root_goals f None = Write (NulledStep (lhs_of f.flat (top_of f)) 0) ∷ []
root_goals f (Some n) = whole_goals f 0 f.place n

-- the steps that goals stand for, from one derivation to the next
abbrev pub steps_from : Forest → Lists → List Goal → List (List Step)
steps_from f lists [] = [] ∷ []
steps_from f lists (Write step ∷ goals) = map (λ rest. step ∷ rest) (steps_from f lists goals)
steps_from f lists (Parts n ∷ goals) = flat_map (λ children. map (λ rest. steps_of_all children ++ rest) (steps_from f lists goals)) (lists n)
steps_from f lists (OneOf start end nodes ∷ goals) = flat_map (λ tree. map (λ rest. steps_of tree ++ rest) (steps_from f lists goals)) (flat_map (whole_by f lists start end) nodes)

-- what a walk has done: it wrote a step, or chose an option of a goal, where later options and the goals after that goal are left
pub data Done : Type 0 where
  Wrote : (step : Step) → Done
  Chose : (later : List (List Goal)) (behind : List Goal) → Done

-- the steps that were written
abbrev pub written : List Done → List Step
written [] = []
written (Wrote step ∷ done) = step ∷ written done
written (Chose later goals ∷ done) = written done

-- what options stand for, with the goals after them
abbrev pub later_steps : Forest → Lists → (behind : List Goal) → List (List Goal) → List (List Step)
later_steps f lists behind later = flat_map (λ option. steps_from f lists (option ++ behind)) later

-- what is still to come after a walk: the later options of its last choice first
abbrev pub to_come : Forest → Lists → List Done → List (List Step)
to_come f lists [] = []
to_come f lists (Wrote step ∷ done) = map (λ rest. step ∷ rest) (to_come f lists done)
to_come f lists (Chose later behind ∷ done) = to_come f lists done ++ later_steps f lists behind later

-- what stands before a walk that has done this much and has these goals left: first all that they stand for, after what is written
abbrev pub stands : Forest → Lists → List Done → List Goal → List (List Step)
stands f lists done left = map (λ rest. written done ++ rest) (steps_from f lists left) ++ to_come f lists done

-- THE LAWS

-- a goal stands for what its options stand for, one after another; it has one, and they are goals of the forest
pub record GoalsAreChosen (f : Forest) (lists : Lists) : Type 0 where
  pub chosen : (goal : Goal) (goals : List Goal) → IsGoal f goal → ((step : Step) → goal ≡ Write step → ⊥) → steps_from f lists (goal ∷ goals) ≡ later_steps f lists goals (options f goal)
  pub some : (goal : Goal) → IsGoal f goal → ((step : Step) → goal ≡ Write step → ⊥) → 0 < length (options f goal)
  pub kept : (goal : Goal) (option : List Goal) → IsGoal f goal → Contains (options f goal) option → AreGoals f option

-- a walk that goes on by first options and, when no goal is left, from its last choice that has a later option: nothing is lost
-- of what stands before it, but for the steps that it gives
pub record WalksGoOn (f : Forest) (lists : Lists) : Type 0 where
  pub writes : (done : List Done) (step : Step) (left : List Goal) → stands f lists done (Write step ∷ left) ≡ stands f lists (done ++ Wrote step ∷ []) left
  pub chooses : (done : List Done) (goal : Goal) (left option : List Goal) (later : List (List Goal)) → IsGoal f goal → options f goal ≡ option ∷ later →
      stands f lists done (goal ∷ left) ≡ stands f lists (done ++ Chose later left ∷ []) (option ++ left)
  pub gives : (done : List Done) → stands f lists done [] ≡ written done ∷ to_come f lists done
  pub unwrites : (done : List Done) (step : Step) → to_come f lists (done ++ Wrote step ∷ []) ≡ to_come f lists done
  pub is_spent : (done : List Done) (behind : List Goal) → to_come f lists (done ++ Chose [] behind ∷ []) ≡ to_come f lists done
  pub goes_on : (done : List Done) (option behind : List Goal) (later : List (List Goal)) →
      to_come f lists (done ++ Chose (option ∷ later) behind ∷ []) ≡ stands f lists (done ++ Chose later behind ∷ []) (option ++ behind)
