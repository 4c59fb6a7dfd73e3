-- That what contracts end in exists: what slots can do is decided, a grammar passes the check or has a refusal, it has so
-- many flat rules, each place has its items, and whether a tree spans two places is decided.
-- Sources: the usual closures over finite sets of symbols and items; Earley 1970.
use Rattle.std.specs.Prelude.{◌≡◌, ℕ, ◌<◌, ◌⊎◌, Bool, true, List}
use Rattle.finite_sets.specs.Decided.{IsDecided}
use Rattle.grammar_model.specs.declared.Edge.{Edge}
use Rattle.grammar_model.specs.Grammar.{Grammar, Slot}
use Rattle.grammar_model.specs.Trees.{Tree}
use Rattle.grammar_model.specs.Derives.{Edges, Held, Derives}
use Rattle.grammar_model.specs.Checked.{IsChecked, Refusal, Refuses}
use Rattle.grammar_model.specs.Acceptable.{IsAcceptable}
use Rattle.slot_analysis.specs.Tested.{HasTests}
use Rattle.recognizer_model.specs.declared.Item.{Item}
use Rattle.recognizer_model.specs.Flat.{FlatGrammar}
use Rattle.recognizer_model.specs.Items.{InSet}
use Rattle.recognizer_model.specs.Counts.{IsListOf, IsCountOf}
use Rattle.recognizer_model.specs.FlatForm.{FlatEdges, IsRuleOf}
use Rattle.flat_model.specs.Flatten.{Decided, named_rules}
use Rattle.flat_model.specs.Flattened.{IsFlattened, HasTooMany}

abbrev pub GoForward : Edges → Type 0
GoForward edge = (symbol from to : ℕ) → edge symbol from to → from < to

-- the edges that a test tells
abbrev pub Told : (ℕ → ℕ → ℕ → Bool) → Edges
Told test symbol from to = test symbol from to ≡ true

-- nullable, productive and accessible slots
abbrev pub TestsExist : Type 0
TestsExist = (g : Grammar) → HasTests g

-- a grammar has what a check asks, or there is a first fault with its least witness
abbrev pub ChecksDecide : Type 0
ChecksDecide = (g : Grammar) → IsChecked g ⊎ ((r : Refusal) × Refuses g r)

-- what flattening takes from a check, with its bounds
abbrev pub DecisionsExist : Type 0
DecisionsExist = (g : Grammar) → Decided g

-- the list of named rules has just the flat rules, each once
abbrev pub NamedRulesAreAll : Type 0
NamedRulesAreAll = (g : Grammar) (d : Decided g) → IsListOf (IsRuleOf g) (named_rules g d)

abbrev pub RulesAreCounted : Type 0
RulesAreCounted = (g : Grammar) → (n : ℕ) × IsCountOf (IsRuleOf g) n

abbrev pub RuleCountIsOne : Type 0
RuleCountIsOne = (g : Grammar) (m n : ℕ) → IsCountOf (IsRuleOf g) m → IsCountOf (IsRuleOf g) n → m ≡ n

-- a checked grammar is flattened, or it would have too many flat rules
abbrev pub FlatteningDecides : Type 0
FlatteningDecides = (w : Grammar) → IsChecked w → ((f : FlatGrammar) × IsFlattened w f) ⊎ HasTooMany w

-- each place has a list of its items
abbrev pub ItemSetsExist : Type 0
ItemSetsExist = (f : FlatGrammar) (edges : List Edge) (top j : ℕ) → GoForward (Held edges) → (items : List Item) × IsListOf (InSet f (FlatEdges f (Held edges)) top j) items

-- whether a terminal is acceptable at a place, over the edges of a list and over those that a test tells
abbrev pub AcceptableAreDecided : Type 0
AcceptableAreDecided = (w : Grammar) (edges : List Edge) (start t place : ℕ) → IsChecked w → GoForward (Held edges) → IsDecided (IsAcceptable w (Held edges) start t place)

abbrev pub ToldAcceptableAreDecided : Type 0
ToldAcceptableAreDecided = (w : Grammar) (test : ℕ → ℕ → ℕ → Bool) (start t place : ℕ) → IsChecked w → GoForward (Told test) → IsDecided (IsAcceptable w (Told test) start t place)

-- whether a tree of a slot spans two places, over the edges of a list and over those that a test tells
abbrev pub TreesAreDecided : Type 0
TreesAreDecided = (g : Grammar) (edges : List Edge) (slot : Slot) (p q : ℕ) → GoForward (Held edges) → IsDecided ((tree : Tree) × Derives g (Held edges) slot p q tree)

abbrev pub ToldTreesAreDecided : Type 0
ToldTreesAreDecided = (g : Grammar) (test : ℕ → ℕ → ℕ → Bool) (slot : Slot) (p q : ℕ) → GoForward (Told test) → IsDecided ((tree : Tree) × Derives g (Told test) slot p q tree)
