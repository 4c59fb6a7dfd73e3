-- The derivations of a reading are one list.
use Rattle.std.proofs.Common.{◌≡◌, List, [], ◌∷◌, slice_index_or}
use Rattle.grammar_model.specs.declared.Ranking.{Ranking}
use Rattle.grammar_model.specs.Grammar.{slot_of}
use Rattle.grammar_model.specs.Trees.{Tree}
use Rattle.grammar_model.specs.Derives.{Held}
use Rattle.grammar_model.proofs.ChosenOnce.{chosen_unique}
use Rattle.language_model.specs.Building.{Built}
use Rattle.reading_model.specs.Reading.{Piece, edges_of, earleme_after}
use Rattle.run_model.specs.Listing.{AreDerivations}

module _ (b : Built) (ranking : Ranking) (pieces : List Piece) where
  pub same_trees : (ts us : List Tree) → AreDerivations b ranking pieces ts → AreDerivations b ranking pieces us → ts ≡ us
  same_trees ts us p q = chosen_unique b.g1 (Held (edges_of pieces)) ranking (slot_of (slice_index_or b.g1.starts 0 0)) 0 (earleme_after pieces) ts us p q

  pub no_tree : (t : Tree) (ts : List Tree) → AreDerivations b ranking pieces [] → AreDerivations b ranking pieces (t ∷ ts) → ⊥
  no_tree t ts p q = let e : [] ≡ t ∷ ts = same_trees [] (t ∷ ts) p q in cc e
