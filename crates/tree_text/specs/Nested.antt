-- How nodes stand below one another.
use Rattle.std.specs.Prelude.{◌≡◌, ℕ, ◌+◌, ◌-◌, ◌<◌, ◌≤◌, List, length, map, Option, None, MatchOption, slice_get, slice_index_or}
use Rattle.std.specs.Option.{option_and_then}
use Rattle.tree_text.specs.Differences.{depth_at, IsAround}
use Rattle.tree_text.specs.declared.nodes.Node.{Node}
use Rattle.tree_text.specs.declared.nodes.Open.{Open}
use Rattle.tree_text.specs.declared.nodes.Growing.{Growing}

abbrev pub above_at : List Node → ℕ → Option ℕ
above_at nodes i = option_and_then (λ node. node.above) (slice_get nodes i)

-- the node at i is below that at a, and one deeper
pub record IsRightBelow (nodes : List Node) (a i : ℕ) : Type 0 where
  pub below : IsAround nodes a i
  pub deeper : depth_at nodes i ≡ depth_at nodes a + 1

-- each node is right below the one that it tells, and one that tells none has no depth
abbrev pub AreNested : List Node → Type 0
AreNested nodes = (i : ℕ) → i < length nodes → MatchOption (above_at nodes i) (depth_at nodes i ≡ 0) (λ a. IsRightBelow nodes a i)

-- ---- nodes that grow: of each, its depth and the node right above it

abbrev pub Level : Type 0
Level = ℕ × Option ℕ

abbrev pub level_of : Node → Level
level_of node = (node.depth, node.above)

abbrev pub node_of : Open → ℕ
node_of opened = opened.node

abbrev pub last_of : List ℕ → Option ℕ
last_of nodes = slice_get nodes (length nodes - 1)

abbrev pub depth_of : List Level → ℕ → ℕ
depth_of levels i = (slice_index_or levels i (0, None)).0

abbrev pub above_of : List Level → ℕ → Option ℕ
above_of levels i = (slice_index_or levels i (0, None)).1

pub record IsBelow (levels : List Level) (a i : ℕ) : Type 0 where
  pub before : a < i
  pub deeper : depth_of levels i ≡ depth_of levels a + 1
  pub between : (k : ℕ) → a < k → k ≤ i → depth_of levels a < depth_of levels k

-- a node of this depth is open: all after it are below it
pub record IsOpenAt (levels : List Level) (depth node : ℕ) : Type 0 where
  pub there : node < length levels
  pub depth_is : depth_of levels node ≡ depth
  pub behind : (k : ℕ) → node < k → k < length levels → depth < depth_of levels k

-- these nodes are open, the outermost first
pub record AreGrowing (levels : List Level) (nodes : List ℕ) : Type 0 where
  pub nested : (i : ℕ) → i < length levels → MatchOption (above_of levels i) (depth_of levels i ≡ 0) (λ a. IsBelow levels a i)
  pub each : (j : ℕ) → j < length nodes → IsOpenAt levels j (slice_index_or nodes j 0)

abbrev pub IsGrowing : Growing → Type 0
IsGrowing growing = AreGrowing (map level_of growing.nodes.items) (map node_of growing.open.items)
