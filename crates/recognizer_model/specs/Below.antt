-- Hidden items, and the items that completions of them lead to in the end: where one of the first is needed, one of the second is.
-- Source: Leo 1991 (what reduced sets leave out); which of it a forest needs is our own.
use Rattle.std.specs.Prelude.{◌≡◌, ℕ, ◌<◌, List, length}
use Rattle.recognizer_model.specs.declared.Item.{Item}
use Rattle.recognizer_model.specs.declared.NodeKey.{NodeKey}
use Rattle.recognizer_model.specs.Flat.{FlatGrammar, lhs_of, rhs_of}
use Rattle.recognizer_model.specs.FlatForm.{FlatEdges}
use Rattle.grammar_model.specs.Grammar.{Grammar}
use Rattle.grammar_model.specs.declared.Edge.{Edge}
use Rattle.grammar_model.specs.declared.Ranking.{Ranking}
use Rattle.grammar_model.specs.declared.Ranking.TheVariants.{None as NoRanks}
use Rattle.grammar_model.specs.Derives.{Edges, Held}
use Rattle.recognizer_model.specs.Leo.{LeadsTo, InReduced, IsHidden, LeoIsKnown}
use Rattle.recognizer_model.specs.Chosen.{Allowed, LeavesSome, allowed_by}
use Rattle.recognizer_model.specs.Nodes.{Placed, IsUsed, IsExpanded}
use Rattle.recognizer_model.specs.Laws.{IsSound}

-- a hidden item below another: completions of its symbol lead there in the end
abbrev pub IsBelow : (g : FlatGrammar) (E : Edges) (top place : ℕ) → (topmost item : Item) → Type 0
IsBelow g E top place topmost item = IsHidden g E top place item × LeadsTo g E top item.origin (lhs_of g item.rule) topmost

-- the item of a node, in the set where the node ends
abbrev pub item_of : NodeKey → Item
item_of n = record { rule = n.rule; dot = n.dot; origin = n.origin }

-- the node of an item of that set
abbrev pub node_of : Item → (end : ℕ) → NodeKey
node_of item end = record { rule = item.rule; dot = item.dot; origin = item.origin; end = end }

-- a hidden item, and some derivation of the whole has its node, whatever the ranks
abbrev pub IsHiddenNode : Grammar → (g : FlatGrammar) (E : Edges) (top place : ℕ) → Placed → Type 0
IsHiddenNode w g E top place p =
    IsHidden g E top p.place p.item × IsUsed g E (allowed_by w NoRanks g E) top place (node_of p.item p.place)

-- a hidden item below one that is kept, and the node of that with the same end is used
pub record IsBelowUsed (g : FlatGrammar) (E : Edges) (allowed : Allowed) (top place end : ℕ) (item : Item) : Type 0 where
  pub topmost : Item
  pub below : IsBelow g E top end topmost item
  pub kept : InReduced g E top end topmost
  pub used : IsUsed g E allowed top place (node_of topmost end)

-- where a node is used and its item is hidden, the item is below a used one; where a used whole node leads, the node of that is used;
-- and whatever is below a used one counts as expanded
pub record HiddenAreBelow (g : FlatGrammar) (E : Edges) (allowed : Allowed) (top place : ℕ) : Type 0 where
  pub used : (n : NodeKey) → IsUsed g E allowed top place n → IsHidden g E top n.end (item_of n) → IsBelowUsed g E allowed top place n.end (item_of n)
  pub above : (n : NodeKey) → IsUsed g E allowed top place n → n.dot ≡ length (rhs_of g n.rule) → (topmost : Item) → LeadsTo g E top n.origin (lhs_of g n.rule) topmost →
      InReduced g E top n.end topmost × IsUsed g E allowed top place (node_of topmost n.end)
  pub expanded : (end : ℕ) (item : Item) → IsBelowUsed g E allowed top place end item → IsExpanded g E allowed top place (record { place = end; item = item })

abbrev pub HiddenStandBelow : Type 0
HiddenStandBelow = (g : FlatGrammar) (edges : List Edge) (top place : ℕ) (w : Grammar) (ranking : Ranking) → IsSound g top → ((s p q : ℕ) → Held edges s p q → p < q) →
    LeavesSome g (FlatEdges g (Held edges)) (allowed_by w ranking g (FlatEdges g (Held edges))) → ((end : ℕ) → LeoIsKnown g (FlatEdges g (Held edges)) top end) →
    HiddenAreBelow g (FlatEdges g (Held edges)) (allowed_by w ranking g (FlatEdges g (Held edges))) top place
