-- What the text of a place tells.
use Rattle.std.specs.Prelude.{◌≢◌, ℕ, List}
use Rattle.grammar_model.specs.Trees.{Tree}
use Rattle.cursor_model.specs.Laid.{Spells}
use Rattle.cursor_model.specs.Rest.{start_text}

-- the text is not that of the place before the first derivation, and spells no tree
pub record TellsNoPlace (text : List ℕ) : Type 0 where
  pub no_start : text ≢ start_text
  pub no_tree : (tree : Tree) → Spells text tree → ⊥
