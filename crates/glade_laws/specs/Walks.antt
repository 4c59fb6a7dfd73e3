-- The first two shapes of a node, by the choices of a forest. From a node a choice leads on to the node of the parts before, or, where the first
-- part is a list, to the node of a whole rule of the list; a walk by choices goes to the end of the rule and passes the starts of its children.
use Rattle.std.specs.Prelude.{◌≡◌, ℕ, Bool, true, false, cond, List, [], ◌∷◌, ◌++◌, Option, Some, None, slice_get}
use Rattle.std.specs.List.{flat_map}
use Rattle.recognizer_model.specs.declared.NodeKey.{NodeKey}
use Rattle.recognizer_model.specs.FlatForm.{symbol_at, is_list}
use Rattle.forest_model.specs.Forest.{Cause, AnEdge, Nothing, Wholes, Alternative, ForestNode, Forest}
use Rattle.forest_laws.specs.Lists.{cause_symbol}

-- the last part of the node is a list, which stands at the front of its rule
abbrev pub is_list_part : Forest → NodeKey → Bool
is_list_part f key = is_list (symbol_at f.flat (cause_symbol f key))

abbrev pub whole_nodes : Cause → List ℕ
whole_nodes AnEdge = []
whole_nodes Nothing = []
whole_nodes (Wholes nodes) = nodes

-- where a choice of the node leads
abbrev pub option_by : Bool → Option ℕ → Cause → List ℕ
option_by list (Some n) cause = n ∷ []
option_by list None cause = cond list (whole_nodes cause) []

abbrev pub options : Forest → ForestNode → List ℕ
options f node = flat_map (λ a. option_by (is_list_part f node.key) a.predecessor a.cause) node.alternatives

-- the alternative's predecessor; there is none after the last
abbrev pub before_at : Option Alternative → Option ℕ
before_at None = None
before_at (Some a) = a.predecessor

abbrev pub end_of : Option ForestNode → ℕ
end_of None = 0
end_of (Some node) = node.key.end

-- the starts with that of the node's last part, if it is a child; it begins where the parts before end
abbrev pub passed : Forest → ForestNode → (next : ℕ) → List ℕ → List ℕ
passed f node next starts = cond (is_list_part f node.key) starts (starts ++ end_of (slice_get f.nodes next) ∷ [])

-- the walk by first choices passes these starts
pub data IsFirst (f : Forest) : (n : ℕ) → (starts : List ℕ) → Type 0 where
  FirstEnds : {n : ℕ} (node : ForestNode) → slice_get f.nodes n ≡ Some node → options f node ≡ [] → IsFirst f n (node.key.origin ∷ [])
  FirstGoes : {n : ℕ} (node : ForestNode) (m : ℕ) (more starts : List ℕ) → slice_get f.nodes n ≡ Some node → options f node ≡ m ∷ more → IsFirst f m starts → IsFirst f n (passed f node m starts)

-- it passes these, and on it there is no second choice
pub data IsOnly (f : Forest) : (n : ℕ) → (starts : List ℕ) → Type 0 where
  OnlyEnds : {n : ℕ} (node : ForestNode) → slice_get f.nodes n ≡ Some node → options f node ≡ [] → IsOnly f n (node.key.origin ∷ [])
  OnlyGoes : {n : ℕ} (node : ForestNode) (m : ℕ) (starts : List ℕ) → slice_get f.nodes n ≡ Some node → options f node ≡ m ∷ [] → IsOnly f m starts → IsOnly f n (passed f node m starts)

-- it passes the first starts; and the walk that takes the second choice at the last place where there is one, and first ones from there, passes the second
pub data IsSecond (f : Forest) : (n : ℕ) → (starts others : List ℕ) → Type 0 where
  Here : {n : ℕ} (node : ForestNode) (m m' : ℕ) (more starts others : List ℕ) → slice_get f.nodes n ≡ Some node → options f node ≡ m ∷ m' ∷ more → IsOnly f m starts → IsFirst f m' others →
      IsSecond f n (passed f node m starts) (passed f node m' others)
  Below : {n : ℕ} (node : ForestNode) (m : ℕ) (more starts others : List ℕ) → slice_get f.nodes n ≡ Some node → options f node ≡ m ∷ more → IsSecond f m starts others →
      IsSecond f n (passed f node m starts) (passed f node m others)

-- there is a second choice on it, or there is none
abbrev pub HasSecond : Forest → ℕ → Bool → Type 0
HasSecond f n true = (starts : List ℕ) × (others : List ℕ) × IsSecond f n starts others
HasSecond f n false = (starts : List ℕ) × IsOnly f n starts
