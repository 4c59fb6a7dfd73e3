-- What the bounds on the steps of a run count: the links of the sets after the first, the Leo pairs, the hidden items that begin no
-- earlier than a used node with the same end, and those of which some derivation has the node.
use Rattle.std.specs.Prelude.{◌≡◌, ℕ, ◌+◌, ◌≤◌, List, Some, slice_get}
use Rattle.grammar_model.specs.declared.Edge.{Edge}
use Rattle.grammar_model.specs.Derives.{Held}
use Rattle.grammar_laws.specs.Laws.{GoForward}
use Rattle.grammar_model.specs.declared.Ranking.{Ranking}
use Rattle.recognizer_model.specs.Flat.{FlatGrammar}
use Rattle.recognizer_model.specs.Chosen.{allowed_by}
use Rattle.recognizer_model.specs.Contexts.{IsTop}
use Rattle.recognizer_model.specs.FlatForm.{IsFlatOf, FlatEdges}
use Rattle.recognizer_model.specs.Invariant.{IsFlat}
use Rattle.recognizer_model.specs.Nodes.{IsExpanded}
use Rattle.recognizer_model.specs.Counts.{IsCountOf}
use Rattle.language_model.specs.Building.{Built}
use Rattle.language_model.specs.Texts.{IsBuilt}
use Rattle.reading_model.specs.Accepted.{IsAccepted}
use Rattle.reading_model.specs.Reading.{Piece, edges_of, earleme_after}
use Rattle.recognizer_model.specs.Below.{IsHiddenNode}
use Rattle.recognizer_model.specs.Links.{IsPlacedLink, IsLeoPair}
use Rattle.run_model.specs.Steps.{IsWithinLooks}

pub record Counts : Type 0 where
  pub links : ℕ
  pub pairs : ℕ
  pub expanded : ℕ
  pub hidden : ℕ

-- the counts of a reading in these pieces
pub record HasCounts (b : Built) (ranking : Ranking) (pieces : List Piece) (n : Counts) : Type 0 where
  pub flat : FlatGrammar
  pub is : IsFlat flat
  pub of : IsFlatOf flat b.g1
  pub top : ℕ
  pub top_is : slice_get flat.tops 0 ≡ Some top
  pub links : IsCountOf (IsPlacedLink flat (FlatEdges flat (Held (edges_of pieces))) top (earleme_after pieces)) n.links
  pub pairs : IsCountOf (IsLeoPair flat (FlatEdges flat (Held (edges_of pieces))) top (earleme_after pieces)) n.pairs
  pub expanded : IsCountOf (IsExpanded flat (FlatEdges flat (Held (edges_of pieces))) (allowed_by b.g1 ranking flat (FlatEdges flat (Held (edges_of pieces)))) top (earleme_after pieces)) n.expanded
  pub hidden : IsCountOf (IsHiddenNode b.g1 flat (FlatEdges flat (Held (edges_of pieces))) top (earleme_after pieces)) n.hidden

-- over any flat grammar, and any edges that go forward, however long they are, the links and the Leo pairs up to a place have counts
abbrev pub LinksAreCounted : Type 0
LinksAreCounted =
    (f : FlatGrammar) (edges : List Edge) (top place : ℕ) → IsTop f top → GoForward (Held edges) →
    ((n : ℕ) × IsCountOf (IsPlacedLink f (FlatEdges f (Held edges)) top place) n) × ((n : ℕ) × IsCountOf (IsLeoPair f (FlatEdges f (Held edges)) top place) n)

-- a reading has its counts
abbrev pub CountsExist : Type 0
CountsExist = (b : Built) (ranking : Ranking) (pieces : List Piece) → IsBuilt b → IsAccepted b → (n : Counts) × HasCounts b ranking pieces n

-- and only these
abbrev pub CountsAreOne : Type 0
CountsAreOne = (b : Built) (ranking : Ranking) (pieces : List Piece) (m n : Counts) → HasCounts b ranking pieces m → HasCounts b ranking pieces n → m ≡ n

-- and they bound the steps of a reading and what is looked at after it, by the hidden items of either kind
abbrev pub CountsBoundSteps : Type 0
CountsBoundSteps = (b : Built) (ranking : Ranking) (pieces : List Piece) (n : Counts) (looks before after : ℕ) → HasCounts b ranking pieces n → IsWithinLooks b ranking pieces looks before after →
    (after ≤ before + n.links + n.pairs + n.expanded + looks) × (after ≤ before + n.links + n.pairs + n.hidden + looks)
