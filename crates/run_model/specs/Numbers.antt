-- The four numbers of a reading: how many tokens it has, how many items its sets keep, how many nodes its forest has, and how many
-- hidden items begin no earlier than a used node with the same end. Each flat form of the grammar has the same.
-- Sources: Leo 1991 (reduced sets); the Libmarpa manual (bocage).
use Rattle.std.specs.Prelude.{◌≡◌, ℕ, List, Some, slice_get}
use Rattle.grammar_model.specs.Derives.{Held}
use Rattle.grammar_model.specs.declared.Ranking.{Ranking}
use Rattle.recognizer_model.specs.Flat.{FlatGrammar}
use Rattle.recognizer_model.specs.Chosen.{allowed_by}
use Rattle.recognizer_model.specs.FlatForm.{IsFlatOf, FlatEdges}
use Rattle.recognizer_model.specs.Invariant.{IsFlat}
use Rattle.recognizer_model.specs.Nodes.{IsStats}
use Rattle.language_model.specs.Building.{Built}
use Rattle.reading_model.specs.Reading.{Piece, edges_of, earleme_after}

pub record Numbers : Type 0 where
  pub tokens : ℕ
  pub kept : ℕ
  pub nodes : ℕ
  pub expanded : ℕ

-- the numbers of a reading in these pieces
pub record HasNumbers (b : Built) (ranking : Ranking) (pieces : List Piece) (n : Numbers) : Type 0 where
  pub flat : FlatGrammar
  pub is : IsFlat flat
  pub of : IsFlatOf flat b.g1
  pub top : ℕ
  pub top_is : slice_get flat.tops 0 ≡ Some top
  pub numbers : IsStats flat (FlatEdges flat (Held (edges_of pieces))) (allowed_by b.g1 ranking flat (FlatEdges flat (Held (edges_of pieces)))) top (earleme_after pieces) n.tokens n.kept n.nodes n.expanded
