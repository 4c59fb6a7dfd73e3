-- What is counted of a reading does not go by the numbers that the symbols and rules of a flat grammar have: any flat form of the written
-- grammar counts alike.
use Rattle.std.specs.Prelude.{◌≡◌, ℕ, List, Some, slice_get}
use Rattle.grammar_model.specs.Grammar.{Grammar}
use Rattle.grammar_model.specs.declared.Edge.{Edge}
use Rattle.grammar_model.specs.declared.Ranking.{Ranking}
use Rattle.grammar_model.specs.Derives.{Edges, Held}
use Rattle.recognizer_model.specs.Flat.{FlatGrammar}
use Rattle.recognizer_model.specs.FlatForm.{IsFlatOf, FlatEdges}
use Rattle.recognizer_model.specs.Invariant.{IsFlat}
use Rattle.recognizer_model.specs.Chosen.{allowed_by}
use Rattle.recognizer_model.specs.Below.{IsHiddenNode}
use Rattle.recognizer_model.specs.Links.{IsPlacedLink, IsLeoPair}
use Rattle.recognizer_model.specs.Nodes.{IsExpanded, IsStats}
use Rattle.recognizer_model.specs.Counts.{IsCountOf}

-- both are flat forms of the grammar, and these are the rules of the tops of one start
pub record AreForms (w : Grammar) (start : ℕ) (f g : FlatGrammar) (top other : ℕ) : Type 0 where
  pub flat : IsFlat f
  pub of : IsFlatOf f w
  pub top_is : slice_get f.tops start ≡ Some top
  pub other_flat : IsFlat g
  pub other_of : IsFlatOf g w
  pub other_is : slice_get g.tops start ≡ Some other

-- the edges of a reading
abbrev pub edges_in : FlatGrammar → List Edge → Edges
edges_in f edges = FlatEdges f (Held edges)

abbrev pub NumbersOfAnyForm : Type 0
NumbersOfAnyForm =
    (w : Grammar) (edges : List Edge) (ranking : Ranking) (start place tokens kept nodes expanded : ℕ) (f g : FlatGrammar) (top other : ℕ) →
    AreForms w start f g top other →
    IsStats f (edges_in f edges) (allowed_by w ranking f (edges_in f edges)) top place tokens kept nodes expanded →
    IsStats g (edges_in g edges) (allowed_by w ranking g (edges_in g edges)) other place tokens kept nodes expanded

-- what bounds the steps of a reading is counted alike
pub record CountsAlike (w : Grammar) (edges : List Edge) (ranking : Ranking) (place : ℕ) (f g : FlatGrammar) (top other : ℕ) : Type 0 where
  pub links : (n : ℕ) → IsCountOf (IsPlacedLink f (edges_in f edges) top place) n → IsCountOf (IsPlacedLink g (edges_in g edges) other place) n
  pub pairs : (n : ℕ) → IsCountOf (IsLeoPair f (edges_in f edges) top place) n → IsCountOf (IsLeoPair g (edges_in g edges) other place) n
  pub expanded : (n : ℕ) → IsCountOf (IsExpanded f (edges_in f edges) (allowed_by w ranking f (edges_in f edges)) top place) n →
      IsCountOf (IsExpanded g (edges_in g edges) (allowed_by w ranking g (edges_in g edges)) other place) n
  pub hidden : (n : ℕ) → IsCountOf (IsHiddenNode w f (edges_in f edges) top place) n → IsCountOf (IsHiddenNode w g (edges_in g edges) other place) n

abbrev pub CountsOfAnyForm : Type 0
CountsOfAnyForm =
    (w : Grammar) (edges : List Edge) (ranking : Ranking) (start place : ℕ) (f g : FlatGrammar) (top other : ℕ) →
    AreForms w start f g top other → CountsAlike w edges ranking place f g top other
