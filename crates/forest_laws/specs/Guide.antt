-- What leads a walk to the derivation that has these steps: of each step where its tree begins, and after how many steps the tree
-- before it ends. The rows are a stack that shares what lies below, as those of goals and of counts are.
use Rattle.std.specs.Prelude.{◌≡◌, ℕ, suc, ◌+◌, ◌*◌, ◌≤◌, List, [], ◌∷◌, ◌++◌, drop, length}
use Rattle.grammar_model.specs.Trees.{Tree, Children, Child, from_of}
use Rattle.grammar_model.specs.Steps.{Step, TokenStep, NulledStep, RuleStep, steps_of, steps_of_all}
use Rattle.recognizer_model.specs.Links.{choices}

-- after how many steps each tree of the stack ends, the newest first; `place` steps were read before
abbrev pub ends_after : (ends : List ℕ) (place : ℕ) → Step → List ℕ
ends_after ends place (TokenStep symbol from to) = suc place ∷ ends
ends_after ends place (NulledStep symbol at) = suc place ∷ ends
ends_after ends place (RuleStep rule n from to) = suc place ∷ drop n ends

abbrev pub all_ends : (ends : List ℕ) (place : ℕ) → List Step → List ℕ
all_ends ends place [] = ends
all_ends ends place (step ∷ steps) = all_ends (ends_after ends place step) (suc place) steps

-- where a tree begins, by its last step
abbrev pub step_from : Step → ℕ
step_from (TokenStep symbol from to) = from
step_from (NulledStep symbol at) = at
step_from (RuleStep rule n from to) = from

-- the newest of the stack, or none
abbrev pub top_of : List ℕ → ℕ
top_of [] = 0
top_of (end ∷ ends) = end

-- what a row is to hold: where the tree of the step at that place begins, and where the tree before it ends
pub record IsRowAt (steps : List Step) (place from below : ℕ) : Type 0 where
  pub before : List Step
  pub step : Step
  pub behind : List Step
  pub split : steps ≡ before ++ step ∷ behind
  pub place_is : place ≡ length before
  pub from_is : from ≡ step_from step
  pub below_is : below ≡ top_of (drop 1 (all_ends [] 0 (before ++ step ∷ [])))

-- THE LAWS

-- of the steps of a rule's first children, after others, the row of the last step tells where the last child begins, and after how many
-- steps those before it end
abbrev pub RowsLead : Type 0
RowsLead = (steps before behind : List Step) (prefix : Children) (last : Tree) (place from below : ℕ) →
    steps ≡ (before ++ steps_of_all (Child prefix last)) ++ behind → suc place ≡ length (before ++ steps_of_all (Child prefix last)) →
    IsRowAt steps place from below → (from ≡ from_of last) × (below ≡ length (before ++ steps_of_all prefix))

-- a derivation's choices are at most seven for each of its steps
abbrev pub ChoicesPerStep : Type 0
ChoicesPerStep = (t : Tree) → choices t + 3 ≤ 7 * length (steps_of t)
