-- What may be the cause in nodes that end at one place, and which of it the first alternative of a node has.
use Rattle.std.specs.Prelude.{◌≡◌, ◌≢◌, ℕ, suc, ◌+◌, ◌-◌, ◌<◌, ◌≤◌, ◌↔◌, ◌⊎◌, Bool, true, false, ◌&&◌, IsTrue, IfSome, List, [], ◌∷◌, ◌++◌, Option, Some, None, length, Contains}
use Rattle.std.specs.List.Sorted.{IsStrictlySortedBy}
use Rattle.grammar_model.specs.declared.Ranking.{Ranking}
use Rattle.grammar_model.specs.Grammar.{Grammar}
use Rattle.recognizer_model.specs.declared.Item.{Item}
use Rattle.recognizer_model.specs.declared.NodeKey.{NodeKey}
use Rattle.recognizer_model.specs.Below.{item_of}
use Rattle.recognizer_model.specs.Flat.{FlatGrammar, part_of, IsNullable}
use Rattle.recognizer_model.specs.FlatForm.{flat_order}
use Rattle.recognizer_model.specs.Items.{IsWhole}
use Rattle.recognizer_model.specs.Leo.{IsNotLeo, LeadsTo}
use Rattle.earley_sets.specs.Below.{LeadsUp}
use Rattle.earley_sets.specs.Recognizer.{Recognizer, earleme_of, set_at, edges_of, top_of}
use Rattle.forest_model.specs.Forest.{AnEdge, Nothing, Wholes, Alternative, ForestNode, Forest, AreAlternatives, IsNode, whole_key}
use Rattle.forest_laws.specs.Laws.{with_nodes}
use Rattle.forest_laws.specs.Lists.{cause_symbol}
use Rattle.forest_parts.specs.declared.parts.Part.{Part}
use Rattle.forest_parts.specs.declared.parts.RuleKey.{RuleKey}
use Rattle.forest_parts.specs.Given.{GivenAt}
use Rattle.forest_parts.specs.Groups.{IsSameSpan, IsKept}
use Rattle.forest_parts.specs.Parts.{part_cmp, part_at, IsPartAt}
use Rattle.forest_parts.specs.Unasked.{IsAskedFor}
use Rattle.bocage.specs.Walk.{HasRule, IsUsedIn, predecessor_of_key}
use Rattle.first_walk.specs.declared.place.Chosen.{Chosen}
use Rattle.first_walk.specs.Walk.{is_none}

-- the reading of a recognizer, as a forest without nodes
abbrev pub reading_of : Grammar → Ranking → Recognizer → Forest
reading_of w ranking r = record { written = w; flat = r.flat; start = r.start; edges = r.edges; place = earleme_of r; ranking = ranking; nodes = []; root = None }

-- WHAT IS LISTED AT A PLACE

-- the item is asked for by a node where that ends, and begins no earlier
abbrev pub IsAskedBy : Grammar → Ranking → Recognizer → (first : NodeKey) → Item → Type 0
IsAskedBy w ranking r first item = (first.origin ≤ item.origin) × IsAskedFor w ranking r (first ∷ []) first.end item

-- from the part no single step leads on, or such steps lead to an item that is asked for
abbrev pub IsNeededBy : Grammar → Ranking → Recognizer → (first : NodeKey) → Part → Type 0
IsNeededBy w ranking r first p = (start : ℕ) × (start + p.length ≡ first.end) × ((p.whole ≡ None) ⊎ IsNotLeo r.flat (edges_of r) (top_of r) start p.symbol ⊎
    ((topmost : Item) × LeadsTo r.flat (edges_of r) (top_of r) start p.symbol topmost × IsAskedBy w ranking r first topmost))

-- edges and whole rules that end where the node does and begin no earlier, and all of them that it needs, in the declared order
pub record IsListed (w : Grammar) (ranking : Ranking) (r : Recognizer) (first : NodeKey) (parts : List Part) : Type 0 where
  pub within : first.end ≤ earleme_of r
  pub are : (p : Part) → Contains parts p → IsPartAt w ranking r first.end first.origin p
  pub all : (p : Part) → IsPartAt w ranking r first.end first.origin p → IsNeededBy w ranking r first p → Contains parts p
  pub sorted : IsStrictlySortedBy part_cmp parts

-- so it is, if anything was listed
abbrev pub IsListedIn : Grammar → Ranking → Recognizer → (first : Option NodeKey) → (parts : List Part) → Type 0
IsListedIn w ranking r first parts = IfSome first (λ key. IsListed w ranking r key parts)

-- a node that ends where the first one does, and is asked for by it; so is the topmost item that its own leads up to
pub record IsUnder (w : Grammar) (ranking : Ranking) (r : Recognizer) (first key : NodeKey) : Type 0 where
  pub end : key.end ≡ first.end
  pub asked : IsAskedBy w ranking r first (item_of key)
  pub above : IsWhole r.flat (item_of key) → (topmost : Item) → LeadsUp r first.end (item_of key) topmost → IsAskedBy w ranking r first topmost

-- something was listed for a first node of that place
abbrev pub IsAt : Grammar → Ranking → Recognizer → (listed : Option NodeKey) → NodeKey → Type 0
IsAt w ranking r listed key = (first : NodeKey) × (listed ≡ Some first) × IsUnder w ranking r first key

-- what was brought back for a place stands after the rest, if it is anything
abbrev pub IsNoted : (end : ℕ) → (tops items : List Item) → (old new : List GivenAt) → Type 0
IsNoted end tops [] old new = new ≡ old
IsNoted end tops (item ∷ items) old new = new ≡ old ++ record { place = end; tops = tops; items = item ∷ items } ∷ []

-- all that was given is of that place or of later ones
abbrev pub AreFrom : (end : ℕ) → List GivenAt → Type 0
AreFrom end given = (e : GivenAt) → Contains given e → end ≤ e.place

-- WHAT MAY BE THE LAST PART OF A NODE

-- it ends where the node does, and what stands before it is kept where it begins
abbrev pub MayBeLast : Recognizer → NodeKey → Part → Type 0
MayBeLast r key p = (start : ℕ) × (start + p.length ≡ key.end) × (part_of r.flat key.rule (key.dot - 1) ≡ Some p.symbol) × Contains (set_at r start) (predecessor_of_key key)

-- edges and whole rules that end where the node does, and all that may be its last part, in the declared order
pub record HaveLast (w : Grammar) (ranking : Ranking) (r : Recognizer) (key : NodeKey) (parts : List Part) : Type 0 where
  pub within : key.end ≤ earleme_of r
  pub are : (p : Part) → Contains parts p → IsPartAt w ranking r key.end 0 p
  pub all : (p : Part) → IsPartAt w ranking r key.end 0 p → MayBeLast r key p → Contains parts p
  pub sorted : IsStrictlySortedBy part_cmp parts

abbrev pub EndTogether : List Part → Type 0
EndTogether parts = (p q : Part) → Contains parts p → Contains parts q → p.end ≡ q.end

-- there is a set where each begins
abbrev pub HavePlaces : Recognizer → List Part → Type 0
HavePlaces r parts = (p : Part) → Contains parts p → (p.length ≤ p.end) × (p.end ≤ earleme_of r)

-- the parts of the symbol stand from there on, with those of greater ones behind them
abbrev pub IsFrom : List Part → (symbol from : ℕ) → Type 0
IsFrom parts symbol from = ((k : ℕ) → k < from → (part_at parts k).symbol < symbol) × ((k : ℕ) → from ≤ k → k < length parts → symbol ≤ (part_at parts k).symbol)

-- a part of the symbol that begins where the item is kept
abbrev pub IsMatch : Recognizer → (symbol : ℕ) → Item → Part → Type 0
IsMatch r symbol item p = (p.symbol ≡ symbol) × Contains (set_at r (p.end - p.length)) item

pub record IsFirstMatch (r : Recognizer) (parts : List Part) (symbol : ℕ) (item : Item) (k : ℕ) : Type 0 where
  pub below : k < length parts
  pub is : IsMatch r symbol item (part_at parts k)
  pub first : (j : ℕ) → j < k → ¬ IsMatch r symbol item (part_at parts j)

abbrev pub HasNoMatch : Recognizer → List Part → (symbol : ℕ) → Item → Type 0
HasNoMatch r parts symbol item = (j : ℕ) → j < length parts → ¬ IsMatch r symbol item (part_at parts j)

-- the part is the only one of the symbol, which may not span nothing
abbrev pub IsOnly : FlatGrammar → List Part → (symbol k : ℕ) → Type 0
IsOnly g parts symbol k =
    (¬ IsNullable g symbol) × (k < length parts) × ((part_at parts k).symbol ≡ symbol) × (suc k < length parts → (part_at parts (suc k)).symbol ≢ symbol)

-- one behind it begins elsewhere, and the item is kept there
abbrev pub HasOtherStart : Recognizer → List Part → Item → ℕ → Type 0
HasOtherStart r parts item k =
    (j : ℕ) × (k < j) × (j < length parts) × ((part_at parts j).length ≢ (part_at parts k).length) × IsMatch r (part_at parts k).symbol item (part_at parts j)

-- the next is another rule over its span, and the ranking keeps it
abbrev pub HasOtherWhole : Ranking → List Part → ℕ → Type 0
HasOtherWhole ranking parts k = (suc k < length parts) × IsSameSpan (part_at parts (suc k)) (part_at parts k) × IsKept ranking (part_at parts (suc k)) (part_at parts k)

abbrev pub null_high : Grammar → Ranking → Recognizer → (rule : ℕ) → Bool
null_high w ranking r rule = (flat_order w ranking r.flat).null_high rule

-- the last part may be nothing else
abbrev pub IsAlone : Recognizer → Ranking → List Part → Item → ℕ → (nothing : Bool) → Type 0
IsAlone r ranking parts item k nothing = (nothing ≡ false) × (¬ HasOtherWhole ranking parts k) × (¬ HasOtherStart r parts item k)

-- a part that may be the cause, or nothing where that may be it and stands first; and whether there is no other
abbrev pub IsFirstOf : Recognizer → (high : Bool) → Ranking → List Part → Item → ℕ → (nothing : Bool) → Chosen → Type 0
IsFirstOf r true ranking parts item k true chosen = (chosen.part ≡ None) × (chosen.alone ≡ false)
IsFirstOf r high ranking parts item k nothing chosen =
    (chosen.part ≡ Some (part_at parts k)) ×
    (IsTrue chosen.alone ↔ IsAlone r ranking parts item k nothing)

-- the part is the cause, and whether of its whole rules there is one
abbrev pub IsCauseBy : Forest → NodeKey → Option RuleKey → Alternative → (one : Bool) → Type 0
IsCauseBy f key None a one = (a.cause ≡ AnEdge) × (one ≡ true)
IsCauseBy f key (Some rule) a one =
    (n : ℕ) × (more : List ℕ) × (a.cause ≡ Wholes (n ∷ more)) × IsNode f n (whole_key f rule.rule a.start key.end) × (one ≡ is_none more)

abbrev pub IsPartOf : Forest → NodeKey → Option Part → Alternative → (one : Bool) → Type 0
IsPartOf f key None a one = (a.start ≡ key.end) × (a.cause ≡ Nothing) × (one ≡ true)
IsPartOf f key (Some p) a one = (a.start + p.length ≡ key.end) × (p.symbol ≡ cause_symbol f key) × IsCauseBy f key p.whole a one

-- the first alternative has this cause, and whether it is the only one
pub record IsFirstChoice (f : Forest) (key : NodeKey) (alternatives : List Alternative) (chosen : Chosen) : Type 0 where
  pub first : Alternative
  pub later : List Alternative
  pub is : alternatives ≡ first ∷ later
  pub one : Bool
  pub part : IsPartOf f key chosen.part first one
  pub alone : chosen.alone ≡ (one && is_none later)

-- so it is whatever nodes a forest of the reading has
abbrev pub IsChosen : Grammar → Ranking → Recognizer → NodeKey → Chosen → Type 0
IsChosen w ranking r key chosen = (nodes : List ForestNode) (root : Option ℕ) (alternatives : List Alternative) →
    AreAlternatives (with_nodes (reading_of w ranking r) nodes root) key alternatives →
    IsFirstChoice (with_nodes (reading_of w ranking r) nodes root) key alternatives chosen

-- a used node of which the first alternative is not the only one
abbrev pub HasOther : Grammar → Ranking → Recognizer → Type 0
HasOther w ranking r = (key : NodeKey) × (chosen : Chosen) × IsUsedIn w ranking r key × IsChosen w ranking r key chosen × (chosen.alone ≡ false)

-- the part lies inside the node, and its rule is one of the grammar's
abbrev pub Fits : FlatGrammar → NodeKey → Part → Type 0
Fits g key p = (p.length + key.origin ≤ key.end) × HasRule g p.whole
