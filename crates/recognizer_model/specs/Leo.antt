-- Leo items, reduced sets, and what they hide. Source: Leo 1991.
use Rattle.std.specs.Prelude.{◌≡◌, ℕ, ◌<◌, Some, ◌↔◌, ◌⊎◌}
use Rattle.recognizer_model.specs.declared.Item.{Item}
use Rattle.recognizer_model.specs.Flat.{FlatGrammar, IsRule, lhs_of, IsNullable}
use Rattle.grammar_model.specs.Derives.{Edges}
use Rattle.recognizer_model.specs.Items.{after, IsWhole, first_item, advanced, InSet}

-- the only item of the set that waits for the symbol, and it waits for nothing after that
pub record IsLeo (g : FlatGrammar) (E : Edges) (top place symbol : ℕ) (item : Item) : Type 0 where
  pub inside : InSet g E top place item
  pub waits : after g item ≡ Some symbol
  pub last : IsWhole g (advanced item)
  pub only : (other : Item) → InSet g E top place other → after g other ≡ Some symbol → other ≡ item

abbrev pub IsNotLeo : (g : FlatGrammar) (E : Edges) (top place symbol : ℕ) → Type 0
IsNotLeo g E top place symbol = (item : Item) → ¬ IsLeo g E top place symbol item

-- where completions of the symbol lead in the end: one step, and on while the next symbol has a Leo item
pub data LeadsTo (g : FlatGrammar) (E : Edges) (top : ℕ) : (place symbol : ℕ) → Item → Type 0 where
  Last : {i x : ℕ} {item : Item} → IsLeo g E top i x item → IsNotLeo g E top item.origin (lhs_of g item.rule) →
      LeadsTo g E top i x (advanced item)
  On : {i x : ℕ} {item topmost : Item} → IsLeo g E top i x item → LeadsTo g E top item.origin (lhs_of g item.rule) topmost →
      LeadsTo g E top i x topmost

-- the reduced sets: a completion with a Leo item adds its topmost item alone
pub data InReduced (g : FlatGrammar) (E : Edges) (top : ℕ) : (place : ℕ) → Item → Type 0 where
  Start : InReduced g E top 0 (first_item top 0)
  Predict : {j x r : ℕ} {item : Item} → InReduced g E top j item → after g item ≡ Some x →
      IsRule g r → lhs_of g r ≡ x → InReduced g E top j (first_item r j)
  Skip : {j x : ℕ} {item : Item} → InReduced g E top j item → after g item ≡ Some x →
      IsNullable g x → InReduced g E top j (advanced item)
  Scan : {i j x : ℕ} {item : Item} → InReduced g E top i item → after g item ≡ Some x →
      E x i j → InReduced g E top j (advanced item)
  Complete : {j : ℕ} {whole item : Item} → InReduced g E top j whole → IsWhole g whole → whole.origin < j →
      IsNotLeo g E top whole.origin (lhs_of g whole.rule) →
      InReduced g E top whole.origin item → after g item ≡ Some (lhs_of g whole.rule) →
      InReduced g E top j (advanced item)
  Leap : {j : ℕ} {whole topmost : Item} → InReduced g E top j whole → IsWhole g whole → whole.origin < j →
      LeadsTo g E top whole.origin (lhs_of g whole.rule) topmost → InReduced g E top j topmost

-- the expanded sets: the reduced ones with the single steps that were left out
pub data InExpanded (g : FlatGrammar) (E : Edges) (top : ℕ) : (place : ℕ) → Item → Type 0 where
  Kept : {j : ℕ} {item : Item} → InReduced g E top j item → InExpanded g E top j item
  Step : {j : ℕ} {whole item : Item} → InExpanded g E top j whole → IsWhole g whole → whole.origin < j →
      IsLeo g E top whole.origin (lhs_of g whole.rule) item → InExpanded g E top j (advanced item)

-- an item of the expanded set that is not kept
abbrev pub IsHidden : (g : FlatGrammar) (E : Edges) (top place : ℕ) → Item → Type 0
IsHidden g E top place item = InExpanded g E top place item × (¬ InReduced g E top place item)

abbrev pub GoesForward : Edges → Type 0
GoesForward E = (x p q : ℕ) → E x p q → p < q

-- before a place it is known which symbols have a Leo item
abbrev pub LeoIsKnown : (g : FlatGrammar) (E : Edges) (top place : ℕ) → Type 0
LeoIsKnown g E top place = (i x : ℕ) → i < place → ((item : Item) × IsLeo g E top i x item) ⊎ IsNotLeo g E top i x

-- the reduced sets keep every item that waits for a symbol
abbrev pub KeepsWaiting : (g : FlatGrammar) (E : Edges) (top place : ℕ) → Type 0
KeepsWaiting g E top place = (item : Item) (x : ℕ) → after g item ≡ Some x → InReduced g E top place item ↔ InSet g E top place item

-- the expanded sets are the full sets
abbrev pub ExpandsToAll : (g : FlatGrammar) (E : Edges) (top place : ℕ) → Type 0
ExpandsToAll g E top place = (item : Item) → InExpanded g E top place item ↔ InSet g E top place item
