-- A flat derivation has few steps: at most one more than the choices of the derivation that it stands for.
use Rattle.std.specs.Prelude.{suc, ◌≤◌, length}
use Rattle.grammar_model.specs.Trees.{Tree}
use Rattle.grammar_model.specs.Steps.{steps_of}
use Rattle.recognizer_model.specs.Flat.{lhs_of}
use Rattle.recognizer_model.specs.FlatDerives.{Derives}
use Rattle.recognizer_model.specs.FlatForm.{tree_of}
use Rattle.recognizer_model.specs.Links.{choices}
use Rattle.forest_model.specs.Forest.{Forest, edges_of, top_of, IsDerived}

abbrev pub StepsAreFew : Type 0
StepsAreFew = (f : Forest) → IsDerived f → (tree : Tree) → Derives f.flat (edges_of f) (lhs_of f.flat (top_of f)) 0 f.place tree →
    length (steps_of tree) ≤ suc (choices (tree_of f.written f.flat tree))
