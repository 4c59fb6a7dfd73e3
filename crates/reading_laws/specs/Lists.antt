-- That the chosen derivations of what is read have a list, in the declared order. That they have one list only is a law of derivations.
use Rattle.std.specs.Prelude.{◌≡◌, ◌↔◌, List, [], ◌∷◌, slice_index_or}
use Rattle.grammar_model.specs.declared.Ranking.{Ranking}
use Rattle.grammar_model.specs.declared.Ranking.TheVariants.{Rule as RuleRanks}
use Rattle.grammar_model.specs.Grammar.{slot_of}
use Rattle.grammar_model.specs.Trees.{Tree}
use Rattle.grammar_model.specs.Derives.{Held}
use Rattle.grammar_model.specs.Chosen.{AreChosen}
use Rattle.grammar_model.specs.Checked.{IsChecked}
use Rattle.language_model.specs.Building.{Built}
use Rattle.language_model.specs.Texts.{IsBuilt}
use Rattle.reading_model.specs.Accepted.{HasFewRules, IsAccepted}
use Rattle.reading_model.specs.Reading.{Piece, Token, Skipped, HasDerivation, edges_of, earleme_after}
use Rattle.flat_model.specs.Lists.{lists}
use Rattle.grammar_laws.specs.Laws.{GoForward}
pub use Rattle.grammar_laws.specs.Lists.{HasShortRules, StartsAreListed}

-- what is built of a text has short rules
abbrev pub BuiltAreShort : Type 0
BuiltAreShort = (b : Built) → IsBuilt b → HasShortRules b.g1

-- the chosen derivations of any pieces have a list, in the declared order
abbrev pub DerivationsAreListed : Type 0
DerivationsAreListed = (b : Built) (ranking : Ranking) (pieces : List Piece) → IsBuilt b → IsAccepted b →
    (trees : List Tree) × AreChosen b.g1 (Held (edges_of pieces)) ranking (slot_of (slice_index_or b.g1.starts 0 0)) 0 (earleme_after pieces) trees

-- what is read has a chosen derivation wherever it has any: its list of chosen ones is empty exactly where it has none
abbrev pub PiecesLeaveSome : Type 0
PiecesLeaveSome = (b : Built) (ranking : Ranking) (pieces : List Piece) (chosen : List Tree) → IsBuilt b → IsAccepted b →
    AreChosen b.g1 (Held (edges_of pieces)) ranking (slot_of (slice_index_or b.g1.starts 0 0)) 0 (earleme_after pieces) chosen → (chosen ≡ []) ↔ (HasDerivation b pieces → ⊥)

-- N, layout, a comma and N
abbrev pub commas : List Piece
commas = Token 1 (3 ∷ []) ∷ Skipped 1 ∷ Token 1 (4 ∷ []) ∷ Token 1 (3 ∷ []) ∷ []

-- the law of starts at the grammar of lists, with what it asks
pub record ListingApplies : Type 0 where
  pub checked : IsChecked lists
  pub few : HasFewRules lists
  pub short : HasShortRules lists
  pub forward : GoForward (Held (edges_of commas))
  pub listed : (trees : List Tree) × AreChosen lists (Held (edges_of commas)) RuleRanks (slot_of 0) 0 3 trees
