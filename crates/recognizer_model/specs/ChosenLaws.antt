-- Laws of chosen derivations: flat derivations of allowed rules stand for those that the ranking chooses, what has a derivation has a
-- chosen one, and the chosen ones have a list.
use Rattle.std.specs.Prelude.{◌≡◌, ℕ, ◌<◌, ◌↔◌, List, [], length}
use Rattle.grammar_model.specs.Grammar.{Grammar, Slot, slot_of}
use Rattle.grammar_model.specs.Trees.{Tree}
use Rattle.grammar_model.specs.Derives.{Held, Derives}
use Rattle.grammar_model.specs.declared.Edge.{Edge}
use Rattle.grammar_model.specs.declared.Ranking.{Ranking}
use Rattle.grammar_model.specs.Order.{rank_order}
use Rattle.grammar_model.specs.All.{IsAll}
use Rattle.grammar_model.specs.Chosen.{IsChosen, AreChosen}
use Rattle.grammar_model.specs.Checked.{IsChecked}
use Rattle.recognizer_model.specs.Flat.{FlatGrammar}
use Rattle.recognizer_model.specs.FlatForm.{IsFlatOf, StandsFor, symbol_at, FlatEdges, tree_of}
use Rattle.recognizer_model.specs.View.{grammar_view}
use Rattle.recognizer_model.specs.Invariant.{IsFlat}
use Rattle.recognizer_model.specs.Chosen.{AreAllowed, LeavesSome, allowed_by}

-- a flat grammar of the written one, over edges that go forward
pub record IsReading (f : FlatGrammar) (w : Grammar) (edges : List Edge) : Type 0 where
  pub flat : IsFlat f
  pub made : IsFlatOf f w
  pub checked : IsChecked w
  pub forward : (s p q : ℕ) → Held edges s p q → p < q

-- a flat derivation is of allowed rules exactly where the ranking chooses what it stands for
abbrev pub ChosenAreAllowed : Type 0
ChosenAreAllowed = (f : FlatGrammar) (w : Grammar) (edges : List Edge) (ranking : Ranking) → IsReading f w edges →
    (x p q : ℕ) (slot : Slot) (t : Tree) → StandsFor w (symbol_at f x) slot → Derives (grammar_view f) (FlatEdges f (Held edges)) (slot_of x) p q t →
    AreAllowed (allowed_by w ranking f (FlatEdges f (Held edges))) t ↔ IsChosen ranking w (Held edges) slot (tree_of w f t)

-- whatever the flat grammar derives it derives by allowed rules
abbrev pub AllowedLeaveSome : Type 0
AllowedLeaveSome = (f : FlatGrammar) (w : Grammar) (edges : List Edge) (ranking : Ranking) → IsFlat f → ((s p q : ℕ) → Held edges s p q → p < q) →
    LeavesSome f (FlatEdges f (Held edges)) (allowed_by w ranking f (FlatEdges f (Held edges)))

-- what has a derivation has a chosen one: a slot's list of chosen derivations is empty exactly where its list of all is
abbrev pub ChosenLeaveSome : Type 0
ChosenLeaveSome = (f : FlatGrammar) (w : Grammar) (edges : List Edge) (ranking : Ranking) → IsReading f w edges →
    (x : ℕ) (slot : Slot) (p q : ℕ) (chosen all : List Tree) → x < length f.symbols → StandsFor w (symbol_at f x) slot →
    AreChosen w (Held edges) ranking slot p q chosen → IsAll w (Held edges) (rank_order w ranking) slot p q all → (chosen ≡ []) ↔ (all ≡ [])

-- the chosen derivations of each slot that counts have a list
abbrev pub ChosenListsExist : Type 0
ChosenListsExist = (f : FlatGrammar) (w : Grammar) (edges : List Edge) (ranking : Ranking) → IsReading f w edges →
    (x : ℕ) (slot : Slot) (p q : ℕ) → x < length f.symbols → StandsFor w (symbol_at f x) slot → (trees : List Tree) × AreChosen w (Held edges) ranking slot p q trees
