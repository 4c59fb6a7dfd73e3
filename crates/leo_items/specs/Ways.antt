-- The way on from a step, as the notes shorten it.
use Rattle.std.specs.Prelude.{◌≡◌, ℕ, ◌+◌, List, Some, None}
use Rattle.recognizer_model.specs.declared.Item.{Item}
use Rattle.recognizer_model.specs.Flat.{FlatGrammar, lhs_of}
use Rattle.leo_items.specs.Memo.{Note, noted}
use Rattle.leo_items.specs.ByRows.{IsNotLeoIn, IsStepIn, pair_of}

-- so many steps up from a step, each by a pair of which nothing is noted, stands the item where steps end, or the step whose pair the item is noted of
pub data IsWay (g : FlatGrammar) (rows : List (List Item)) (notes : List Note) : (walked : ℕ) → (step top : Item) → Type 0 where
  Ends : {step : Item} → noted notes (pair_of g step) ≡ None → IsNotLeoIn g rows step.origin (lhs_of g step.rule) → IsWay g rows notes 0 step step
  Noted : {step top : Item} → noted notes (pair_of g step) ≡ Some top → IsWay g rows notes 0 step top
  On : {k : ℕ} {step next top : Item} → noted notes (pair_of g step) ≡ None → IsStepIn g rows step.origin (lhs_of g step.rule) (Some next) → IsWay g rows notes k next top → IsWay g rows notes (k + 1) step top
