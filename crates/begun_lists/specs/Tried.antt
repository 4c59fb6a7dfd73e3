-- The links that are tried while a list of what begins is made.
use Rattle.std.specs.Prelude.{◌≡◌, ◌≢◌, ℕ, ◌+◌, ◌⊎◌, List, length, Some, Contains, AllPairs}
use Rattle.recognizer_model.specs.declared.Item.{Item}
use Rattle.recognizer_model.specs.Flat.{FlatGrammar, IsRule, lhs_of, IsNullable}
use Rattle.recognizer_model.specs.Items.{after}
use Rattle.recognizer_model.specs.Links.{Link, Predicts, Skips, Scans, Completes, Leaps}
use Rattle.begun_lists.specs.Begun.{AreAwaited}

-- the number rises by one for each of some different values with the property
pub record RisesWithin {A : Type 0} (P : A → Type 0) (old new : ℕ) : Type 0 where
  pub values : List A
  pub once : AllPairs (λ x y. x ≢ y) values
  pub are : (x : A) → Contains values x → P x
  pub count : new ≡ old + length values

-- the link of an item that waits for the symbol with what skipping makes of it
abbrev pub MakesSkip : FlatGrammar → Item → (symbol : ℕ) → Link → Type 0
MakesSkip g item x link = IsNullable g x × (link ≡ Skips item)

-- the links that an item makes that begins
abbrev pub MakesLater : FlatGrammar → Item → Link → Type 0
MakesLater g item (Predicts before r) = (before ≡ item) × ((x : ℕ) × (after g item ≡ Some x) × IsRule g r × (lhs_of g r ≡ x))
MakesLater g item (Skips before) = (before ≡ item) × ((x : ℕ) × (after g item ≡ Some x) × IsNullable g x)
MakesLater g item (Scans before from) = ⊥
MakesLater g item (Completes whole waiting) = ⊥
MakesLater g item (Leaps whole) = ⊥

abbrev pub MakesOneLater : FlatGrammar → List Item → Link → Type 0
MakesOneLater g items link = (item : Item) × Contains items item × MakesLater g item link

abbrev pub IsRuleOf : FlatGrammar → (symbols : List ℕ) → ℕ → Type 0
IsRuleOf g symbols r = IsRule g r × Contains symbols (lhs_of g r)

-- the number rises by one for each rule of the symbols, and then by one for each link of the items that begin
abbrev pub TriesBegun : FlatGrammar → (symbols : List ℕ) → List Item → (old new : ℕ) → Type 0
TriesBegun g symbols items old new = (mid : ℕ) × RisesWithin (IsRuleOf g symbols) old mid × RisesWithin (MakesOneLater g items) mid new

-- no step is needed where the list is there; else the tries that it takes to make it
abbrev pub TriesList : FlatGrammar → List Item → (list : List Item) → (old new : ℕ) → Type 0
TriesList g items list old new = (new ≡ old) ⊎ ((symbols : List ℕ) × AreAwaited g items symbols × TriesBegun g symbols list old new)
