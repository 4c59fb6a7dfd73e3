-- The line of a value in a pool.
use Rattle.std.specs.Prelude.{ℕ, List, [], ◌∷◌, ◌++◌}
use Rattle.grammar_model.specs.Values.{Value}
use Rattle.grammar_model.specs.Text.{text_of}
use Rattle.value_text.specs.Nodes.{value_at}

abbrev pub value_line : List Value → ℕ → List ℕ
value_line pool id = text_of (value_at pool id) ++ 10 ∷ []
