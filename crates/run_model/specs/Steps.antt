-- How many steps a reading and its derivations may take. A step is a try to add an item to a set, a Leo pair that is noted, a
-- hidden item that is brought back, or a look at the alternatives of a forest's node.
-- Sources: Leo 1991 (linear work on right recursion); the Libmarpa manual (bocage, tree).
use Rattle.std.specs.Prelude.{◌≡◌, ℕ, ◌+◌, ◌≤◌, List, Some, slice_get}
use Rattle.std.specs.List.{sum_by}
use Rattle.grammar_model.specs.Trees.{Tree}
use Rattle.grammar_model.specs.Derives.{Held}
use Rattle.grammar_model.specs.Grammar.{Grammar}
use Rattle.grammar_model.specs.declared.Ranking.{Ranking}
use Rattle.recognizer_model.specs.Flat.{FlatGrammar}
use Rattle.recognizer_model.specs.Chosen.{allowed_by}
use Rattle.recognizer_model.specs.FlatForm.{IsFlatOf, FlatEdges}
use Rattle.recognizer_model.specs.Invariant.{IsFlat}
use Rattle.recognizer_model.specs.Below.{IsHiddenNode}
use Rattle.recognizer_model.specs.Links.{IsPlacedLink, IsLeoPair, choices}
use Rattle.recognizer_model.specs.Nodes.{IsExpanded}
use Rattle.recognizer_model.specs.Counts.{IsCountOf}
use Rattle.language_model.specs.Building.{Built}
use Rattle.reading_model.specs.Reading.{Piece, edges_of, earleme_after}

-- a reading in these pieces, and then so many looks: at most a step for each link of the sets after the first, for each Leo pair, for each
-- look, and for each hidden item that begins no earlier than a used node with the same end; and, in place of these, for each hidden item
-- that has a node
pub record IsWithinLooks (b : Built) (ranking : Ranking) (pieces : List Piece) (looks before after : ℕ) : Type 0 where
  pub flat : FlatGrammar
  pub is : IsFlat flat
  pub of : IsFlatOf flat b.g1
  pub top : ℕ
  pub top_is : slice_get flat.tops 0 ≡ Some top
  pub few : (links pairs expanded : ℕ) →
      IsCountOf (IsPlacedLink flat (FlatEdges flat (Held (edges_of pieces))) top (earleme_after pieces)) links →
      IsCountOf (IsLeoPair flat (FlatEdges flat (Held (edges_of pieces))) top (earleme_after pieces)) pairs →
      IsCountOf (IsExpanded flat (FlatEdges flat (Held (edges_of pieces))) (allowed_by b.g1 ranking flat (FlatEdges flat (Held (edges_of pieces)))) top (earleme_after pieces)) expanded →
      after ≤ before + links + pairs + expanded + looks
  pub needed : (links pairs hidden : ℕ) →
      IsCountOf (IsPlacedLink flat (FlatEdges flat (Held (edges_of pieces))) top (earleme_after pieces)) links →
      IsCountOf (IsLeoPair flat (FlatEdges flat (Held (edges_of pieces))) top (earleme_after pieces)) pairs →
      IsCountOf (IsHiddenNode b.g1 flat (FlatEdges flat (Held (edges_of pieces))) top (earleme_after pieces)) hidden →
      after ≤ before + links + pairs + hidden + looks

-- where derivations are given, there is a look for each of their choices
abbrev pub IsWithinSteps : Built → Ranking → List Piece → (given : List Tree) → (before after : ℕ) → Type 0
IsWithinSteps b ranking pieces given before after = IsWithinLooks b ranking pieces (sum_by choices given) before after
