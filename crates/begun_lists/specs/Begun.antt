-- What begins at a place, its predictions: it depends on the symbols that are awaited there, and on nothing else.
use Rattle.std.specs.Prelude.{◌≡◌, ℕ, ◌<◌, ◌↔◌, List, [], length, Some, slice_get, Contains}
use Rattle.std.specs.declared.vec.Vec.{Vec}
use Rattle.std.specs.declared.alloc.Global.{Global}
use Rattle.recognizer_model.specs.declared.Item.{Item}
use Rattle.recognizer_model.specs.Flat.{FlatGrammar, IsRule, lhs_of, IsNullable}
use Rattle.recognizer_model.specs.Items.{after, first_item, advanced}
use Rattle.item_rows.specs.Rows.{ItemRows, shared_at}
use Rattle.item_rows.specs.Kept.{IsAwaited}

-- the symbol has a rule
abbrev pub HasRule : FlatGrammar → ℕ → Type 0
HasRule g x = (r : ℕ) × IsRule g r × (lhs_of g r ≡ x)

-- exactly the symbols with rules that items wait for
abbrev pub AreAwaited : FlatGrammar → List Item → List ℕ → Type 0
AreAwaited g items symbols = (x : ℕ) → Contains symbols x ↔ (IsAwaited g items x × HasRule g x)

-- the dotted rules that begin where some symbols are awaited: the rules of these symbols, and of those that are awaited by what begins; and what skipping makes of them
pub data Begins (g : FlatGrammar) (Awaited : ℕ → Type 0) : Item → Type 0 where
  First : {x r : ℕ} → Awaited x → IsRule g r → lhs_of g r ≡ x → Begins g Awaited (first_item r 0)
  Predicts : {x r : ℕ} {item : Item} → Begins g Awaited item → after g item ≡ Some x → IsRule g r → lhs_of g r ≡ x → Begins g Awaited (first_item r 0)
  Skips : {x : ℕ} {item : Item} → Begins g Awaited item → after g item ≡ Some x → IsNullable g x → Begins g Awaited (advanced item)

-- exactly what begins where the symbols are awaited
abbrev pub AreBegun : FlatGrammar → (ℕ → Type 0) → List Item → Type 0
AreBegun g Awaited items = (item : Item) → Contains items item ↔ Begins g Awaited item

-- an item begins at a place where items wait
abbrev pub IsBegun : FlatGrammar → (earleme : ℕ) → List Item → Item → Type 0
IsBegun g earleme items item = (item.origin ≡ earleme) × Begins g (IsAwaited g items) (record item { origin = 0 })

-- a number is noted for the symbols
abbrev pub IsNoted : List (Vec ℕ Global × ℕ) → List ℕ → ℕ → Type 0
IsNoted notes symbols number = (v : Vec ℕ Global) × Contains notes (v, number) × (v.items ≡ symbols)

-- each number that is noted is that of a list of what begins where the symbols are awaited; the list 0 is empty
pub record AreLists (g : FlatGrammar) (lists : List (List Item)) (notes : List (Vec ℕ Global × ℕ)) : Type 0 where
  pub none : slice_get lists 0 ≡ Some []
  pub noted : (symbols : List ℕ) (number : ℕ) → IsNoted notes symbols number → (number < length lists) × AreBegun g (Contains symbols) (shared_at lists number)

-- a rule of the symbol begins
abbrev pub IsPredicted : FlatGrammar → (symbol : ℕ) → Item → Type 0
IsPredicted g x other = (r : ℕ) × IsRule g r × (lhs_of g r ≡ x) × (other ≡ first_item r 0)

-- where one rule of a symbol has begun, all have
abbrev pub BeginTogether : FlatGrammar → (set : List Item) → Type 0
BeginTogether g set = (r s : ℕ) → IsRule g r → IsRule g s → lhs_of g r ≡ lhs_of g s → Contains set (first_item r 0) → Contains set (first_item s 0)

-- one of the symbols has the rule that begins
abbrev pub IsFirst : FlatGrammar → (symbols : List ℕ) → Item → Type 0
IsFirst g symbols item = (x : ℕ) × Contains symbols x × IsPredicted g x item

-- the rows are the same, whatever lists they share
pub record KeepsSets (old new : ItemRows) : Type 0 where
  pub flat : new.flat ≡ old.flat
  pub sets : new.sets ≡ old.sets

-- the lists that were there stay, each at its number
abbrev pub SharesMore : (old new : List (List Item)) → Type 0
SharesMore old new = (k : ℕ) → k < length old → (k < length new) × (shared_at new k ≡ shared_at old k)
