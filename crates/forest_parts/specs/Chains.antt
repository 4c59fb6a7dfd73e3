-- Nodes chained by the places where they end.
use Rattle.std.specs.Prelude.{◌≡◌, ℕ, suc, ◌<◌, ◌≤◌, ◌↔◌, List, [], ◌∷◌, Some, length, slice_get, slice_index_or, Contains}
use Rattle.recognizer_model.specs.declared.NodeKey.{NodeKey}

-- the node of that number ends there
abbrev pub EndsAt : List NodeKey → (end : ℕ) → ℕ → Type 0
EndsAt keys end n = (key : NodeKey) × (slice_get keys n ≡ Some key) × (key.end ≡ end)

-- nodes from the one before the head on, each with the place after the next
abbrev pub IsChain : (below : List ℕ) → (head : ℕ) → List ℕ → Type 0
IsChain below head [] = head ≡ 0
IsChain below head (n ∷ ns) = (head ≡ suc n) × ((b : ℕ) × (slice_get below n ≡ Some b) × (b ≤ n) × IsChain below b ns)

-- of the first nodes, as many as there are links, those that end at one place are one chain
pub record AreChained (keys : List NodeKey) (heads below : List ℕ) : Type 0 where
  pub few : length below ≤ length keys
  pub chain : (end : ℕ) → (nodes : List ℕ) × IsChain below (slice_index_or heads end 0) nodes × ((n : ℕ) → Contains nodes n ↔ ((n < length below) × EndsAt keys end n))
