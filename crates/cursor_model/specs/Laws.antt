-- Laws of cursors.
use Rattle.std.specs.Prelude.{◌<◌, ◌^◌, ◌⊎◌, ◌≡◌, ℕ, suc, ◌≤◌, List, ◌++◌, map, length, Contains, codes}
use Rattle.std.specs.List.{concat}
use Rattle.grammar_model.specs.Grammar.{Grammar, Slot}
use Rattle.grammar_model.specs.Trees.{Tree, Leaf, Nulled, Node, NoChild, Child}
use Rattle.grammar_model.specs.declared.Edge.{Edge}
use Rattle.grammar_model.specs.Derives.{Held, Derives}
use Rattle.grammar_model.specs.declared.Ranking.{Ranking}
use Rattle.grammar_model.specs.Chosen.{AreChosen}
use Rattle.std.specs.Fmt.{decimal}
use Rattle.grammar_model.specs.declared.limits.TheConstants.{LONGEST_CURSOR}
use Rattle.cursor_model.specs.Cursor.{numeral, cursor_of}
use Rattle.cursor_model.specs.Laid.{IsLaid, Spells}
use Rattle.cursor_model.specs.Rest.{start_text, place_after, IsRest, NamesNone}

-- each edge has length one, as in the reading of a text
abbrev pub AreUnits : List Edge → Type 0
AreUnits edges = (e : Edge) → Contains edges e → e.to ≡ suc e.from

-- a derivation over such edges lies from its one place to the other
abbrev pub DerivationsAreLaid : Type 0
DerivationsAreLaid = (g : Grammar) (edges : List Edge) (slot : Slot) (p q : ℕ) (t : Tree) → AreUnits edges → Derives g (Held edges) slot p q t → IsLaid p q t

-- trees that lie from one place on are told by their cursors, also where they end in different places
abbrev pub CursorsTellTrees : Type 0
CursorsTellTrees = (t u : Tree) (p q r : ℕ) → IsLaid p q t → IsLaid p r u → cursor_of t ≡ cursor_of u → t ≡ u

-- so different derivations of one reading have different cursors
abbrev pub CursorsDiffer : Type 0
CursorsDiffer = (g : Grammar) (edges : List Edge) (slot : Slot) (p q : ℕ) (t u : Tree) → AreUnits edges →
    Derives g (Held edges) slot p q t → Derives g (Held edges) slot p q u → cursor_of t ≡ cursor_of u → t ≡ u

-- and a text spells one tree at most
abbrev pub TextsSpellOne : Type 0
TextsSpellOne = (text : List ℕ) (t u : Tree) → Spells text t → Spells text u → t ≡ u

-- there is such a text: a rule with a token and a nulled leaf
abbrev pub CursorsApply : Type 0
CursorsApply = Spells (codes "t2.n0.r1,2") (Node 1 (Child (Child NoChild (Leaf 2 0 1)) (Nulled 0 1)) 0 1)

-- GOING ON

-- of the chosen derivations of a reading, what is left after a place is one list
abbrev pub RestIsOne : Type 0
RestIsOne = (g : Grammar) (edges : List Edge) (ranking : Ranking) (slot : Slot) (p q : ℕ) (trees : List Tree) → AreUnits edges →
    AreChosen g (Held edges) ranking slot p q trees → (text : List ℕ) (xs ys : List Tree) → IsRest trees text xs → IsRest trees text ys → xs ≡ ys

-- where the list is cut, the place between is named, where its text is not too long, and what goes on from there is the other part: the
-- lines up to the place and those after it are all the lines, whatever the line of a derivation is
pub record GoesOn (trees before rest : List Tree) : Type 0 where
  pub named : IsRest trees (place_after start_text before) rest
  pub alone : (others : List Tree) → IsRest trees (place_after start_text before) others → others ≡ rest
  pub whole : (line : Tree → List ℕ) (others : List Tree) → IsRest trees (place_after start_text before) others →
      concat (map line before) ++ concat (map line others) ≡ concat (map line trees)

abbrev pub PlacesGoOn : Type 0
PlacesGoOn = (g : Grammar) (edges : List Edge) (ranking : Ranking) (slot : Slot) (p q : ℕ) (trees before rest : List Tree) → AreUnits edges →
    AreChosen g (Held edges) ranking slot p q trees → trees ≡ before ++ rest → length (place_after start_text before) ≤ LONGEST_CURSOR → GoesOn trees before rest

-- going on from a place twice is going on once
abbrev pub PlacesFollow : Type 0
PlacesFollow = (text : List ℕ) (before more : List Tree) → place_after (place_after text before) more ≡ place_after text (before ++ more)

-- a text names a place of a list, or none
abbrev pub PlacesAreDecided : Type 0
PlacesAreDecided = (trees : List Tree) (text : List ℕ) → ((rest : List Tree) × IsRest trees text rest) ⊎ NamesNone trees text

-- numerals of numbers in 32 bits are those that programs write
abbrev pub NumeralsAreDecimals : Type 0
NumeralsAreDecimals = (n : ℕ) → n < 2 ^ 32 → numeral n ≡ decimal n
