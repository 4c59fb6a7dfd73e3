-- The hidden items below used ones.
use Rattle.std.specs.Prelude.{◌≡◌, ℕ, ◌+◌, List, None, Contains, ◌⊎◌}
use Rattle.grammar_model.specs.declared.Ranking.{Ranking}
use Rattle.grammar_model.specs.Grammar.{Grammar}
use Rattle.recognizer_model.specs.declared.Item.{Item}
use Rattle.recognizer_model.specs.Leo.{IsNotLeo, LeadsTo}
use Rattle.recognizer_model.specs.Below.{node_of}
use Rattle.recognizer_model.specs.Chosen.{allowed_by}
use Rattle.recognizer_model.specs.Nodes.{IsUsed}
use Rattle.earley_sets.specs.Recognizer.{Recognizer, earleme_of, edges_of, top_of}
use Rattle.earley_sets.specs.Below.{StandsBelow}
use Rattle.forest_parts.specs.declared.parts.Part.{Part}
use Rattle.forest_parts.specs.Hidden.{IsHiddenFrom}

abbrev pub IsItemUsed : Grammar → Ranking → Recognizer → (end : ℕ) → Item → Type 0
IsItemUsed w ranking r end item = IsUsed r.flat (edges_of r) (allowed_by w ranking r.flat (edges_of r)) (top_of r) (earleme_of r) (node_of item end)

-- hidden items that begin at `least` or after it, and all that stand below used ones
pub record AreNeeded (w : Grammar) (ranking : Ranking) (r : Recognizer) (end least : ℕ) (items : List Item) : Type 0 where
  pub hidden : (item : Item) → Contains items item → IsHiddenFrom r end least item
  pub all : (topmost item : Item) → StandsBelow r end topmost item → IsItemUsed w ranking r end topmost → Contains items item

-- from the part no single step leads on, or such steps lead to a used item
abbrev pub IsNeeded : Grammar → Ranking → Recognizer → (end : ℕ) → Part → Type 0
IsNeeded w ranking r end p = (start : ℕ) × (start + p.length ≡ end) × ((p.whole ≡ None) ⊎ IsNotLeo r.flat (edges_of r) (top_of r) start p.symbol ⊎
    ((topmost : Item) × LeadsTo r.flat (edges_of r) (top_of r) start p.symbol topmost × IsItemUsed w ranking r end topmost))
