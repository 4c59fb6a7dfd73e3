use Rattle.std.proofs.Common.{◌≡◌, ℕ, ◌<◌, ◌∷◌, [], Some, slice_get}
use Rattle.grammar_model.specs.Grammar.{Grammar}
use Rattle.recognizer_model.specs.declared.Item.{Item}
use Rattle.forest_parts.specs.Unasked.{IsAskedFor}
use Rattle.first_walk.proofs.near.are_near.Given as goal

abbrev pub invariant-loop-k : goal.invariant-loop-k
invariant-loop-k l = (w : Grammar) (i : ℕ) (top : Item) → i < l.k → slice_get l.tops i ≡ Some top → IsAskedFor w l.ranking l.recce (l.first ∷ []) l.first.end top
