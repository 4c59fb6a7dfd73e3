-- How the list of cells grows while a list of places in it does.
use Rattle.std.specs.Prelude.{◌≡◌, ℕ, ◌<◌, ◌≤◌, List, ◌++◌, All, length, map}
use Rattle.grammar_model.specs.Trees.{Tree, Children, Nulled, NoChild}
use Rattle.plain_lister.specs.declared.Cell.{Cell}
use Rattle.plain_lister.specs.Arena.{Meant, meant_at, meanings}

abbrev pub at : List Cell → ℕ → Meant
at cells k = meant_at (meanings cells) k

abbrev pub as_tree : Tree → Meant
as_tree t = record { tree = t; prefix = NoChild }

abbrev pub as_prefix : Children → Meant
as_prefix cs = record { tree = Nulled 0 0; prefix = cs }

abbrev pub Within : List Cell → List ℕ → Type 0
Within cells places = All (λ k. k < length cells) places

-- each old cell stands for what it stood for
pub record Keeps (old new : List Cell) : Type 0 where
  pub longer : length old ≤ length new
  pub same : (k : ℕ) → k < length old → at new k ≡ at old k

-- the cells that the places name stand for what they did, and for more after that
pub record Adds (old new : List Cell) (places others : List ℕ) (more : List Meant) : Type 0 where
  pub keeps : Keeps old new
  pub within : Within new others
  pub told : map (at new) others ≡ map (at old) places ++ more
