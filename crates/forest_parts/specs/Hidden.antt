-- Hidden items of a place, and how many of them there are.
use Rattle.std.specs.Prelude.{◌≡◌, ◌≢◌, ℕ, ◌+◌, ◌≤◌, List, length, Contains, AllPairs, ◌↔◌, ◌⊎◌}
use Rattle.recognizer_model.specs.declared.Item.{Item}
use Rattle.recognizer_model.specs.Counts.{IsListOf, IsCountOf}
use Rattle.recognizer_model.specs.Items.{InSet, IsWhole}
use Rattle.recognizer_model.specs.Leo.{IsHidden}
use Rattle.earley_sets.specs.Recognizer.{Recognizer, set_at, edges_of, top_of}

-- a hidden item of a place that begins at another or after it
abbrev pub IsHiddenFrom : Recognizer → (end least : ℕ) → Item → Type 0
IsHiddenFrom r end least item = IsHidden r.flat (edges_of r) (top_of r) end item × (least ≤ item.origin)

-- all of them; with the kept items they are all whole ones from there on
pub record AreHidden (r : Recognizer) (end least : ℕ) (items : List Item) : Type 0 where
  pub hidden : IsListOf (IsHiddenFrom r end least) items
  pub full : (item : Item) → IsWhole r.flat item → least ≤ item.origin → (Contains (set_at r end) item ⊎ Contains items item) ↔ InSet r.flat (edges_of r) (top_of r) end item

-- so many different values have the property, or more
abbrev pub AreAtLeast : {A : Type 0} → (A → Type 0) → ℕ → Type 0
AreAtLeast {A} P n = (xs : List A) × AllPairs (λ x y. x ≢ y) xs × ((x : A) → Contains xs x → P x) × (length xs ≡ n)

-- the number rises by no more than the values with the property are
abbrev pub RisesWithin : {A : Type 0} → (A → Type 0) → (old new : ℕ) → Type 0
RisesWithin P old new = (n : ℕ) × AreAtLeast P n × (new ≡ old + n)

-- the number rises by as many as the values with the property are
abbrev pub RisesBy : {A : Type 0} → (A → Type 0) → (old new : ℕ) → Type 0
RisesBy P old new = (n : ℕ) × IsCountOf P n × (new ≡ old + n)
