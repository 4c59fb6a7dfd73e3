-- Going on from a place in a list of derivations.
use Rattle.std.specs.Prelude.{◌≡◌, ℕ, ◌≤◌, List, [], ◌∷◌, ◌++◌, length, codes}
use Rattle.grammar_model.specs.Trees.{Tree}
use Rattle.grammar_model.specs.declared.limits.TheConstants.{LONGEST_CURSOR}
use Rattle.cursor_model.specs.Cursor.{cursor_of}

-- the text of the place before the first derivation
abbrev pub start_text : List ℕ
start_text = codes "0"

-- the place after these derivations, where the first of them follows another place: the cursor of the last of them
abbrev pub place_after : (text : List ℕ) → List Tree → List ℕ
place_after text [] = text
place_after text (tree ∷ trees) = place_after (cursor_of tree) trees

-- the text names the place in a list between these and the rest: before the first, or after a derivation
pub record IsPlaceOf (text : List ℕ) (trees before rest : List Tree) : Type 0 where
  pub parts : trees ≡ before ++ rest
  pub within : length text ≤ LONGEST_CURSOR
  pub is : text ≡ place_after start_text before

-- what is left of the list after the place
abbrev pub IsRest : (trees : List Tree) (text : List ℕ) (rest : List Tree) → Type 0
IsRest trees text rest = (before : List Tree) × IsPlaceOf text trees before rest

-- the text names no place of the list
abbrev pub NamesNone : (trees : List Tree) (text : List ℕ) → Type 0
NamesNone trees text = (before rest : List Tree) → IsPlaceOf text trees before rest → ⊥
