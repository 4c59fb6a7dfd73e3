-- Hidden items of the places where nodes end: the expanded ones, and those that are items of nodes.
use Rattle.std.specs.Prelude.{◌≡◌, ℕ}
use Rattle.recognizer_model.specs.declared.Item.{Item}
use Rattle.grammar_model.specs.declared.Ranking.{Ranking}
use Rattle.grammar_model.specs.Grammar.{Grammar}
use Rattle.recognizer_model.specs.Below as model
use Rattle.recognizer_model.specs.Chosen.{allowed_by}
use Rattle.recognizer_model.specs.Nodes.{Placed, IsExpanded}
use Rattle.earley_sets.specs.Recognizer.{Recognizer, earleme_of, edges_of, top_of}
use Rattle.earley_sets.specs.Below.{StandsBelow}
use Rattle.forest_model.specs.Forest.{Forest}

abbrev pub IsExpandedIn : Grammar → Ranking → Recognizer → Placed → Type 0
IsExpandedIn w ranking r p = IsExpanded r.flat (edges_of r) (allowed_by w ranking r.flat (edges_of r)) (top_of r) (earleme_of r) p

-- the forest is of what the recognizer holds, by that grammar and ranking
abbrev pub IsOver : Grammar → Ranking → Recognizer → Forest → Type 0
IsOver w ranking r f =
    (f.written ≡ w) × (f.flat ≡ r.flat) × (f.start ≡ r.start) × (f.edges ≡ r.edges) × (f.place ≡ earleme_of r) × (f.ranking ≡ ranking)

-- a hidden item, and some derivation of the whole has its node, whatever the ranks
abbrev pub IsHiddenNode : Grammar → Recognizer → Placed → Type 0
IsHiddenNode w r = model.IsHiddenNode w r.flat (edges_of r) (top_of r) (earleme_of r)

-- a hidden item below a topmost one whose rule the ranking allows over its span
abbrev pub IsBelowAllowed : Grammar → Ranking → Recognizer → Placed → Type 0
IsBelowAllowed w ranking r p =
    (topmost : Item) × StandsBelow r p.place topmost p.item ×
    allowed_by w ranking r.flat (edges_of r) topmost.rule topmost.origin p.place

-- such an item that is that of a node, too
abbrev pub IsChosenHidden : Grammar → Ranking → Recognizer → Placed → Type 0
IsChosenHidden w ranking r p = IsHiddenNode w r p × IsBelowAllowed w ranking r p

-- and an expanded one
abbrev pub IsGivenIn : Grammar → Ranking → Recognizer → Placed → Type 0
IsGivenIn w ranking r p = IsExpandedIn w ranking r p × IsChosenHidden w ranking r p

-- such an item of one place
abbrev pub IsGivenAt : Grammar → Ranking → Recognizer → (end : ℕ) → Item → Type 0
IsGivenAt w ranking r end item = IsGivenIn w ranking r (record { place = end; item = item })
