-- The trees that the steps read so far tell.
use Rattle.std.specs.Prelude.{◌≡◌, ◌≢◌, ◌⊎◌, ℕ, ◌<◌, List, [], ◌∷◌, ◌++◌, length, slice_index}
use Rattle.grammar_model.specs.Trees.{Children, NoChild, Child, from_of}
use Rattle.grammar_model.specs.Steps.{Step, TokenStep, NulledStep, RuleStep, steps_of_all, after_step}
use Rattle.cursor_model.specs.Cursor.{step_text}
use Rattle.cursor_model.specs.Laid.{AreLaid}
use Rattle.tree_cursor.specs.declared.stack.Stack.{Stack}

abbrev pub starts_of : Children → List ℕ
starts_of NoChild = []
starts_of (Child prefix last) = starts_of prefix ++ from_of last ∷ []

-- the trees lie side by side from place 0 on, to the end of the last and from where the stack has it
pub record AreTold (stack : Stack) (trees : Children) : Type 0 where
  pub laid : AreLaid 0 stack.end trees
  pub starts : stack.starts.items ≡ starts_of trees

-- the step has its places, and is done on the stack
pub record IsDone (old new : Stack) (step done : Step) : Type 0 where
  pub same_text : step_text done ≡ step_text step
  pub stands : (trees : Children) → AreTold old trees →
      AreTold new (after_step trees done) × (steps_of_all (after_step trees done) ≡ steps_of_all trees ++ done ∷ [])

-- the step takes no tree, or more than there are
abbrev pub TakesWrong : (count : ℕ) → Step → Type 0
TakesWrong count (TokenStep symbol from to) = ⊥
TakesWrong count (NulledStep symbol at) = ⊥
TakesWrong count (RuleStep rule children from to) = (children ≡ 0) ⊎ (count < children)

-- the text is cut at its first comma
pub record IsCut (text before after : List ℕ) : Type 0 where
  pub is : text ≡ before ++ 44 ∷ after
  pub lacks : (k : ℕ) → k < length before → slice_index before k ≢ 44
