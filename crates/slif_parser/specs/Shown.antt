-- The line of a derivation, as it is shown.
use Rattle.std.specs.Prelude.{ℕ, List, [], ◌∷◌, ◌++◌}
use Rattle.grammar_model.specs.Trees.{Tree}
use Rattle.grammar_model.specs.Text.{text_of}
use Rattle.grammar_model.specs.Values.{value_of}
use Rattle.grammar_model.specs.declared.Show.{Show}
use Rattle.valuator.specs.Play.{tokens_of}
use Rattle.slif_parser.specs.Views.{Read}

-- the text of its value, and a line feed
abbrev pub shown_line : Read → Show → Tree → List ℕ
shown_line r show t = text_of (value_of show r.grammar.g1 r.grammar.meaning (tokens_of r.characters r.spans) t) ++ 10 ∷ []
