-- The steps of a tree: its leaves and its rules in the order of a walk that takes children before their rule. They
-- work on a stack of trees: a leaf is put on top, and a rule takes its children from the top and puts its node there.
-- Source: the Libmarpa manual (the valuator's steps).
use Rattle.std.specs.Prelude.{◌≡◌, ℕ, zero, suc, List, [], ◌∷◌, ◌++◌}
use Rattle.grammar_model.specs.Trees.{Tree, Children, Leaf, Nulled, Node, NoChild, Child, child_count}

pub data Step : Type 0 where
  TokenStep : (symbol from to : ℕ) → Step
  NulledStep : (symbol at : ℕ) → Step
  RuleStep : (rule children from to : ℕ) → Step

abbrev mutual
  pub steps_of : Tree → List Step
  steps_of (Leaf symbol from to) = TokenStep symbol from to ∷ []
  steps_of (Nulled symbol at) = NulledStep symbol at ∷ []
  steps_of (Node rule children from to) = steps_of_all children ++ RuleStep rule (child_count children) from to ∷ []

  pub steps_of_all : Children → List Step
  steps_of_all NoChild = []
  steps_of_all (Child prefix last) = steps_of_all prefix ++ steps_of last

-- the stack without its newest n trees, and those, in their order
abbrev pub below_newest : ℕ → Children → Children
below_newest zero stack = stack
below_newest (suc n) NoChild = NoChild
below_newest (suc n) (Child prefix last) = below_newest n prefix

abbrev pub newest : ℕ → Children → Children
newest zero stack = NoChild
newest (suc n) NoChild = NoChild
newest (suc n) (Child prefix last) = Child (newest n prefix) last

abbrev pub after_step : Children → Step → Children
after_step stack (TokenStep symbol from to) = Child stack (Leaf symbol from to)
after_step stack (NulledStep symbol at) = Child stack (Nulled symbol at)
after_step stack (RuleStep rule n from to) = Child (below_newest n stack) (Node rule (newest n stack) from to)

abbrev pub after_steps : Children → List Step → Children
after_steps stack [] = stack
after_steps stack (step ∷ steps) = after_steps (after_step stack step) steps

-- a tree's steps put it on top of the stack; so no two trees have the same steps
abbrev pub StepsMakeTheTree : Type 0
StepsMakeTheTree = (stack : Children) (t : Tree) → after_steps stack (steps_of t) ≡ Child stack t

abbrev pub StepsTellTheTree : Type 0
StepsTellTheTree = (t u : Tree) → steps_of t ≡ steps_of u → t ≡ u
