-- Items without a node that ends at a place: none was met, and none can be asked for by one there; and items that are.
use Rattle.std.specs.Prelude.{◌≡◌, ℕ, ◌≤◌, ◌<ℤ◌, List, ◌++◌, Some, length, Contains, ◌⊎◌}
use Rattle.grammar_model.specs.declared.Ranking.{Ranking}
use Rattle.grammar_model.specs.declared.Ranking.TheVariants.{None as NoRanks, Rule as RuleRanks, High as HighRanks}
use Rattle.grammar_model.specs.Grammar.{Grammar}
use Rattle.recognizer_model.specs.declared.Item.{Item}
use Rattle.recognizer_model.specs.declared.NodeKey.{NodeKey}
use Rattle.recognizer_model.specs.Flat.{IsRule, lhs_of, rhs_of, IsNullable}
use Rattle.recognizer_model.specs.Items.{after, IsWhole, advanced}
use Rattle.recognizer_model.specs.Below.{node_of}
use Rattle.recognizer_model.specs.Chosen.{flat_rank}
use Rattle.earley_sets.specs.Recognizer.{Recognizer, earleme_of, set_at}
use Rattle.earley_sets.specs.Kept.{IsItem}
use Rattle.earley_sets.specs.Below.{StepsTo, LeadsUp, IsBottom}

-- the item with one part more, which may span nothing
abbrev pub IsAfterNothing : Recognizer → (item other : Item) → Type 0
IsAfterNothing r item other = ((x : ℕ) × (after r.flat item ≡ Some x) × IsNullable r.flat x) × (other ≡ advanced item)

-- an item that waits for the whole one where it begins, with that part
abbrev pub IsAwaiting : Recognizer → (item other : Item) → Type 0
IsAwaiting r item other = (waiting : Item) × Contains (set_at r item.origin) waiting × (after r.flat waiting ≡ Some (lhs_of r.flat item.rule)) × (other ≡ advanced waiting)

-- the topmost item that the whole one leads up to, or, where no single step leads on, one that waits for it
abbrev pub IsOver : Recognizer → (end : ℕ) → (item other : Item) → Type 0
IsOver r end item other = LeadsUp r end item other ⊎ (((step : Item) → ¬ StepsTo r end item step) × IsAwaiting r item other)

-- the rule has a higher rank than the item's, and is kept as whole over the item's span
abbrev pub IsHigher : Grammar → Recognizer → (end : ℕ) → Item → (rule : ℕ) → Type 0
IsHigher w r end item rule =
    (flat_rank w HighRanks r.flat item.rule <ℤ flat_rank w HighRanks r.flat rule) ×
    Contains (set_at r end) (record { rule = rule; dot = length (rhs_of r.flat rule); origin = item.origin })

-- a rule of the same left side is
abbrev pub HasHigher : Grammar → Recognizer → (end : ℕ) → Item → Type 0
HasHigher w r end item = (rule : ℕ) ×
    (IsRule r.flat rule × (lhs_of r.flat rule ≡ lhs_of r.flat item.rule)) × IsHigher w r end item rule

-- and the ranking leaves the item out for that
abbrev pub IsOutranked : Grammar → Ranking → Recognizer → (end : ℕ) → Item → Type 0
IsOutranked w NoRanks r end item = ⊥
IsOutranked w RuleRanks r end item = ⊥
IsOutranked w HighRanks r end item = HasHigher w r end item

abbrev pub IsOverChosen : Grammar → Ranking → Recognizer → (end : ℕ) → (item other : Item) → Type 0
IsOverChosen w ranking r end item other = (¬ IsOutranked w ranking r end item) × IsOver r end item other

-- where a node of the item ends at the place, one of such another does
abbrev pub IsAbove : Grammar → Ranking → Recognizer → (end : ℕ) → (item other : Item) → Type 0
IsAbove w ranking r end item other =
    IsAfterNothing r item other ⊎ (IsWhole r.flat item × IsOverChosen w ranking r end item other)

abbrev pub IsPlaced : Recognizer → Item → Type 0
IsPlaced r item = IsItem r.flat item × (item.origin ≤ earleme_of r)

-- no node of such an item was met, and what stands above it is one, too
pub record AreUnasked (w : Grammar) (ranking : Ranking) (r : Recognizer) (keys : List NodeKey) (end : ℕ) (items : List Item) : Type 0 where
  pub placed : (item : Item) → Contains items item → IsPlaced r item
  pub unmet : (item : Item) → Contains items item → ¬ Contains keys (node_of item end)
  pub closed : (item other : Item) → Contains items item → IsAbove w ranking r end item other → Contains items other

-- a node of the item was met, or one of an item that stands above it, however far
pub data IsAskedFor (w : Grammar) (ranking : Ranking) (r : Recognizer) (keys : List NodeKey) (end : ℕ) : Item → Type 0 where
  Met : {item : Item} → Contains keys (node_of item end) → IsAskedFor w ranking r keys end item
  Over : {item other : Item} → IsAbove w ranking r end item other → IsAskedFor w ranking r keys end other →
      IsAskedFor w ranking r keys end item

-- items that are not asked for, and items that are
pub record AreParted (w : Grammar) (ranking : Ranking) (r : Recognizer) (keys : List NodeKey) (end : ℕ)
    (unasked asked : List Item) : Type 0 where
  pub are_unasked : AreUnasked w ranking r keys end unasked
  pub are_asked : (item : Item) → Contains asked item → IsAskedFor w ranking r keys end item

abbrev pub IsTold : (unasked asked : List Item) → Item → Type 0
IsTold unasked asked item = Contains unasked item ⊎ Contains asked item

-- those with the property are told, too
pub record Tells (w : Grammar) (ranking : Ranking) (r : Recognizer) (keys : List NodeKey) (end : ℕ) (P : Item → Type 0)
    (unasked asked unasked' asked' : List Item) : Type 0 where
  pub parted : AreParted w ranking r keys end unasked' asked'
  pub keeps : (item : Item) → IsTold unasked asked item → IsTold unasked' asked' item
  pub tells : (item : Item) → P item → IsTold unasked' asked' item

-- a topmost item that a whole kept one leads up to, and that begins at `least` or after it
abbrev pub IsTopmostFrom : Recognizer → (end least : ℕ) → Item → Type 0
IsTopmostFrom r end least topmost = ((item : Item) × IsBottom r end topmost item) × (least ≤ topmost.origin)

-- exactly the items with the property are there, after those that were
pub record Takes (r : Recognizer) (P : Item → Type 0) (old new : List Item) : Type 0 where
  pub begins : (more : List Item) × (new ≡ old ++ more)
  pub all : (item : Item) → P item → Contains new item
  pub only : (item : Item) → Contains new item → Contains old item ⊎ P item
  pub placed : (item : Item) → Contains new item → Contains old item ⊎ IsPlaced r item
