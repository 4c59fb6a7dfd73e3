-- Where two trees first differ. A tree is the list of its nodes, each before those below it.
use Rattle.std.specs.Prelude.{◌≡◌, ◌≢◌, ℕ, ◌<◌, ◌≤◌, List, length, slice_get, Option, Some, None, ◌⊎◌}
use Rattle.std.specs.Option.{option_map}
use Rattle.tree_text.specs.Looks.{Look, look_of, Face, face_of}
use Rattle.tree_text.specs.declared.nodes.Node.{Node}
use Rattle.tree_text.specs.declared.difference.Difference.{Difference}
use Rattle.tree_text.specs.declared.difference.Difference.TheVariants.{Same, Within, Apart}

abbrev pub look_at : List Node → ℕ → Option Look
look_at nodes i = option_map look_of (slice_get nodes i)

abbrev pub AreSame : List Node → List Node → Type 0
AreSame one other = (i : ℕ) → look_at one i ≡ look_at other i

-- the first place where they look different
pub record DifferFirst (one other : List Node) (first : ℕ) : Type 0 where
  pub before : (i : ℕ) → i < first → look_at one i ≡ look_at other i
  pub differ : look_at one first ≢ look_at other first

abbrev pub depth_in : Option Look → ℕ
depth_in (Some look) = look.depth
depth_in None = 0

abbrev pub depth_at : List Node → ℕ → ℕ
depth_at nodes i = depth_in (look_at nodes i)

-- the node at i is the node at j, or j's is below it
pub record IsAround (nodes : List Node) (i j : ℕ) : Type 0 where
  pub there : j < length nodes
  pub up_to : i ≤ j
  pub deeper : (k : ℕ) → i < k → k ≤ j → depth_at nodes i < depth_at nodes k

abbrev pub IsAroundIn : List Node → List Node → ℕ → ℕ → Type 0
IsAroundIn one other i j = IsAround one i j ⊎ IsAround other i j

abbrev pub face_at : List Node → ℕ → Option Face
face_at nodes i = option_map face_of (slice_get nodes i)

-- both trees have a node there, of one symbol, over as many tokens
pub record IsInBoth (one other : List Node) (i : ℕ) : Type 0 where
  pub face : Face
  pub first : face_at one i ≡ Some face
  pub second : face_at other i ≡ Some face

-- the smallest node of both around the first place where they differ
pub record IsSmallest (one other : List Node) (at : ℕ) : Type 0 where
  pub first : ℕ
  pub differ : DifferFirst one other first
  pub around : IsAroundIn one other at first
  pub in_both : IsInBoth one other at
  pub smallest : (i : ℕ) → IsAroundIn one other i first → IsInBoth one other i → i ≤ at

-- no node of both is around that place
pub record AreApart (one other : List Node) : Type 0 where
  pub first : ℕ
  pub differ : DifferFirst one other first
  pub none : (i : ℕ) → IsAroundIn one other i first → ¬ (IsInBoth one other i)

abbrev pub IsDifference : List Node → List Node → Difference → Type 0
IsDifference one other Same = AreSame one other
IsDifference one other (Within at) = IsSmallest one other at
IsDifference one other Apart = AreApart one other
