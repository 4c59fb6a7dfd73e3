-- Kernels, which are what rows have of their own, held by their shapes and origins.
use Rattle.std.specs.Prelude.{◌≡◌, ℕ, ◌<◌, length, List, [], ◌∷◌, Option, None, Some, slice_get, slice_index_or}
use Rattle.kernels.specs.declared.shapes.Shape.{Shape}
use Rattle.kernels.specs.Slots.{placed_all, dotted_of, AreSlotted}

-- the number of the list that a row shares, its own items, packed, and the number of its shape
pub record Kernel : Type 0 where
  pub begun : ℕ
  pub packed : List ℕ
  pub kind : ℕ

abbrev pub no_kernel : Kernel
no_kernel = record { begun = 0; packed = []; kind = 0 }

abbrev pub kernel_at : List Kernel → ℕ → Kernel
kernel_at kernels j = slice_index_or kernels j no_kernel

-- kernels with one number share one list, and have the same dotted rules in the same order
abbrev pub AreOfShapes : List Kernel → Type 0
AreOfShapes kernels = (i j : ℕ) → i < length kernels → j < length kernels → (kernel_at kernels i).kind ≡ (kernel_at kernels j).kind →
    ((kernel_at kernels i).begun ≡ (kernel_at kernels j).begun) × (dotted_of (kernel_at kernels i).packed ≡ dotted_of (kernel_at kernels j).packed)

-- a kernel of the shape, which has that number, with the origins
abbrev pub kernel_of : Option Shape → (kind : ℕ) → (origins : List ℕ) → Kernel
kernel_of None kind origins = no_kernel
kernel_of (Some shape) kind origins = record { begun = shape.begun; packed = placed_all origins shape.slotted.items; kind = kind }

-- row by row: the number of the shape, and the origins
abbrev pub kernels_of : (shapes : List Shape) → (kinds : List ℕ) → (origins : List (List ℕ)) → List Kernel
kernels_of shapes [] rows = []
kernels_of shapes (kind ∷ kinds) [] = []
kernels_of shapes (kind ∷ kinds) (origins ∷ rows) = kernel_of (slice_get shapes kind) kind origins ∷ kernels_of shapes kinds rows

-- the origins are those of the shape's slots
pub record IsShaped (shapes : List Shape) (kind : ℕ) (origins : List ℕ) : Type 0 where
  pub shape : Shape
  pub is : slice_get shapes kind ≡ Some shape
  pub slotted : AreSlotted origins shape.slotted.items

abbrev pub AreShaped : (shapes : List Shape) → (kinds : List ℕ) → (origins : List (List ℕ)) → Type 0
AreShaped shapes [] [] = Unit {0}
AreShaped shapes [] (origins ∷ rows) = ⊥
AreShaped shapes (kind ∷ kinds) [] = ⊥
AreShaped shapes (kind ∷ kinds) (origins ∷ rows) = IsShaped shapes kind origins × AreShaped shapes kinds rows

-- the shape of that number is like the given one
pub record IsShapeAt (shapes : List Shape) (shape : Shape) (n : ℕ) : Type 0 where
  pub found : Shape
  pub is : slice_get shapes n ≡ Some found
  pub begun : found.begun ≡ shape.begun
  pub slotted : found.slotted.items ≡ shape.slotted.items

-- packed items are those of the shape of that number, with the origins
pub record IsOfShape (shapes : List Shape) (kind number : ℕ) (items origins : List ℕ) : Type 0 where
  pub shape : Shape
  pub is : slice_get shapes kind ≡ Some shape
  pub begun : shape.begun ≡ number
  pub slotted : AreSlotted origins shape.slotted.items
  pub packed : placed_all origins shape.slotted.items ≡ items
