-- How far the pieces of a text were read.
use Rattle.std.specs.Prelude.{◌≡◌, ℕ, ◌≤◌, List, ◌++◌, length, map, ◌==◌}
use Rattle.std.specs.List.{slice_split}
use Rattle.grammar_model.specs.Trees.{Children}
use Rattle.grammar_model.specs.Steps.{steps_of_all}
use Rattle.grammar_core.specs.declared.steps.TreeStep.{TreeStep}
use Rattle.grammar_core.specs.Steps.{step_of}
use Rattle.cursor_model.specs.Cursor.{step_text}
use Rattle.cursor_model.specs.Laid.{AreSmall}
use Rattle.tree_cursor.specs.declared.stack.Stack.{Stack}
use Rattle.tree_cursor.specs.Told.{AreTold}

-- the steps have the texts of the first pieces, and their trees stand on the stack; these pieces are left
pub record AreRead (text : List ℕ) (stack : Stack) (steps : List TreeStep) (left : List (List ℕ)) : Type 0 where
  pub trees : Children
  pub told : AreTold stack trees
  pub steps_are : map step_of steps ≡ steps_of_all trees
  pub small : AreSmall (map step_of steps)
  pub pieces : slice_split (λ b. b == 46) text ≡ map step_text (map step_of steps) ++ left
  pub end : stack.end ≤ length steps
