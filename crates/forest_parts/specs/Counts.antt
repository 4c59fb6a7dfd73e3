-- The hidden items that end with one of some nodes and begin no earlier than one that ends there.
use Rattle.std.specs.Prelude.{◌≡◌, ℕ, ◌≤◌, ◌⊎◌, List, Option, Some, None, Contains, slice_get}
use Rattle.recognizer_model.specs.declared.Item.{Item}
use Rattle.recognizer_model.specs.declared.NodeKey.{NodeKey}
use Rattle.recognizer_model.specs.Leo.{IsHidden}
use Rattle.recognizer_model.specs.Nodes.{Placed}
use Rattle.earley_sets.specs.Recognizer.{Recognizer, edges_of, top_of}

-- the least origin of the nodes that end there, if one does
abbrev pub IsLeast : List NodeKey → (end : ℕ) → Option ℕ → Type 0
IsLeast keys end None = (key : NodeKey) → Contains keys key → key.end ≡ end → ⊥
IsLeast keys end (Some origin) = ((key : NodeKey) × Contains keys key × (key.end ≡ end) × (key.origin ≡ origin)) × ((key : NodeKey) → Contains keys key → key.end ≡ end → origin ≤ key.origin)

abbrev pub AreLeast : List NodeKey → List (Option ℕ) → Type 0
AreLeast keys least = (end : ℕ) (origin : Option ℕ) → slice_get least end ≡ Some origin → IsLeast keys end origin

-- the lower one of both, where there are two
abbrev pub IsLowest : Option ℕ → (origin lowest : ℕ) → Type 0
IsLowest None origin lowest = lowest ≡ origin
IsLowest (Some low) origin lowest = (lowest ≤ low) × (lowest ≤ origin) × ((lowest ≡ low) ⊎ (lowest ≡ origin))

-- a hidden item of a place that begins no earlier than one of the nodes that end there
abbrev pub IsHiddenAt : Recognizer → List NodeKey → (end : ℕ) → Item → Type 0
IsHiddenAt r keys end item = IsHidden r.flat (edges_of r) (top_of r) end item × ((key : NodeKey) × Contains keys key × (key.end ≡ end) × (key.origin ≤ item.origin))

abbrev pub IsHiddenBy : Recognizer → List NodeKey → Placed → Type 0
IsHiddenBy r keys p = IsHiddenAt r keys p.place p.item
