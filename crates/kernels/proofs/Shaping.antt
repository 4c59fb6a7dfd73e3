-- Kernels by their shapes.
use Rattle.std.proofs.Common.{◌≡◌, ℕ, zero, suc, ◌<◌, ◌++◌, List, [], ◌∷◌, length, Bool, true, false, nat_eq, if◌then◌else◌, Some, slice_get, refl, sym, ◌∙◌, ap, subst, arith}
use Rattle.std.specs.Prelude.{slice_index_or}
use Rattle.std.specs.List.{position, list_any}
use Rattle.std.specs.Cmp.Lexicographic.{pointwise}
use Rattle.std.proofs.lemmas.Bool.{eqb-true, and_parts}
use Rattle.std.proofs.lemmas.Bool.Decides.{Decides-eqb}
use Rattle.std.proofs.lemmas.Slice.Eq.{slice_eq-Decides}
use Rattle.std.proofs.lemmas.Option.{slice_get-get_or}
use Rattle.std.proofs.lemmas.List.Quantifiers.{position-Some}
use Rattle.indexmap.specs.IndexSet.{insert_key}
use Rattle.finite_sets.proofs.Lists.{get_left, get_index}
use Rattle.jagged.specs.Rows.{row_at as list_at}
use Rattle.kernels.specs.declared.shapes.Shape.{Shape}
use Rattle.kernels.specs.contracts.shapes.ShapePartialEq.TheImpl as derived
use Rattle.kernels.specs.Slots.{placed_all, dotted_of, AreSlotted}
use Rattle.kernels.proofs.Slotting.{dotted_placed}
use Rattle.kernels.specs.Shapes.{Kernel, kernel_at, kernel_of, kernels_of, IsShaped, AreShaped, IsShapeAt}

-- shapes that are the same
abbrev pub shape_eq : Shape → Shape → Bool
shape_eq = derived.eq-value.it

pub same_shape : (a b : Shape) → shape_eq a b ≡ true → (a.begun ≡ b.begun) × (a.slotted.items ≡ b.slotted.items)
same_shape a b e =
    let (x, y) = and_parts (nat_eq a.begun b.begun) (pointwise nat_eq a.slotted.items b.slotted.items) e in
    (eqb-true a.begun b.begun x, (slice_eq-Decides Decides-eqb a.slotted.items b.slotted.items (pointwise nat_eq a.slotted.items b.slotted.items) refl).0 y)

pub found_shape : (shapes : List Shape) (shape : Shape) (n at : ℕ) → Some at ≡ position (shape_eq shape) shapes → n ≡ at → IsShapeAt shapes shape n
found_shape shapes shape n at e same =
    let (lt, eq, first) = position-Some (shape_eq shape) shapes at shape (sym e) in
    let found = slice_index_or shapes at shape in
    let (begun, slotted) = same_shape shape found eq in
    record { found = found; is = ap (slice_get shapes) same ∙ slice_get-get_or shapes at shape lt; begun = sym begun; slotted = sym slotted }

pub stored_shape : (shapes : List Shape) (copy shape : Shape) (n at : ℕ) → ((k : Shape) × (slice_get shapes at ≡ Some k) × (shape_eq copy k ≡ true)) → copy.begun ≡ shape.begun → copy.slotted.items ≡ shape.slotted.items → n ≡ at → IsShapeAt shapes shape n
stored_shape shapes copy shape n at (k, is, eq) b s same =
    let (begun, slotted) = same_shape copy k eq in
    record { found = k; is = ap (slice_get shapes) same ∙ is; begun = sym begun ∙ b; slotted = sym slotted ∙ s }

pub shapes_kept : (old new : List Shape) (copy : Shape) → new ≡ insert_key shape_eq old copy → (k : ℕ) (s : Shape) → slice_get old k ≡ Some s → slice_get new k ≡ Some s
shapes_kept old new copy e k s is = by (list_any (shape_eq copy) old) refl
  where
    by : (b : Bool) → list_any (shape_eq copy) old ≡ b → slice_get new k ≡ Some s
    by true h = ap (λ l. slice_get l k) (e ∙ ap (λ b. if b then old else old ++ copy ∷ []) h) ∙ is
    by false h = ap (λ l. slice_get l k) (e ∙ ap (λ b. if b then old else old ++ copy ∷ []) h) ∙ get_left old (copy ∷ []) k s is

-- kernels over the same shapes
module _ (shapes : List Shape) where
  pub shaped_length : (kinds : List ℕ) (origins : List (List ℕ)) → AreShaped shapes kinds origins → (length kinds ≡ length origins) × (length (kernels_of shapes kinds origins) ≡ length kinds)
  shaped_length [] [] are = (refl, refl)
  shaped_length [] (o ∷ rows) are = absurd are
  shaped_length (k ∷ kinds) [] are = absurd are
  shaped_length (k ∷ kinds) (o ∷ rows) (is, are) = let (a, b) = shaped_length kinds rows are in (ap suc a, ap suc b)

  -- the kernel of a row: its number, and its shape
  pub record IsKernelAt (kinds : List ℕ) (origins : List (List ℕ)) (j : ℕ) : Type 0 where
    pub kind : ℕ
    pub has : slice_get kinds j ≡ Some kind
    pub shaped : IsShaped shapes kind (list_at origins j)
    pub is : kernel_at (kernels_of shapes kinds origins) j ≡ kernel_of (slice_get shapes kind) kind (list_at origins j)

  pub shaped_at : (kinds : List ℕ) (origins : List (List ℕ)) (j : ℕ) → AreShaped shapes kinds origins → j < length kinds → IsKernelAt kinds origins j
  shaped_at [] [] j are lt = absurd (omega arith)
  shaped_at [] (o ∷ rows) j are lt = absurd are
  shaped_at (k ∷ kinds) [] j are lt = absurd are
  shaped_at (k ∷ kinds) (o ∷ rows) zero (is, are) lt = record { kind = k; has = refl; shaped = is; is = refl }
  shaped_at (k ∷ kinds) (o ∷ rows) (suc j) (is, are) lt =
      let at = shaped_at kinds rows j are (omega arith) in
      record { kind = at.kind; has = at.has; shaped = at.shaped; is = at.is }

  pub at_kinds : (kinds : List ℕ) (origins : List (List ℕ)) (j : ℕ) → AreShaped shapes kinds origins → j < length kinds → (kind : ℕ) × (slice_get kinds j ≡ Some kind) × (kind < length shapes)
  at_kinds kinds origins j are lt =
      let at = shaped_at kinds origins j are lt in
      (at.kind, at.has, (get_index shapes at.kind at.shaped.shape at.shaped.shape at.shaped.is).0)

-- a kernel that is read
module _ (shapes : List Shape) (kinds : List ℕ) (origins : List (List ℕ)) (view : List Kernel) (are : AreShaped shapes kinds origins) (seen : kernels_of shapes kinds origins ≡ view) (j : ℕ) (lt : j < length view) where
  pub in_kinds : j < length kinds
  in_kinds = let (a, b) = shaped_length shapes kinds origins are in let s = ap length seen in omega arith

  pub in_origins : j < length origins
  in_origins = let (a, b) = shaped_length shapes kinds origins are in let s = ap length seen in omega arith

  -- the number of its shape
  pub kind_here : slice_index_or kinds j 0 ≡ (kernel_at view j).kind
  kind_here =
      let at = shaped_at shapes kinds origins j are in_kinds in
      let (lt', has) = get_index kinds j 0 at.kind at.has in
      let made = ap (λ s. kernel_of s at.kind (list_at origins j)) at.shaped.is in
      has ∙ ap (λ (k : Kernel). k.kind) (sym (ap (λ (v : List Kernel). kernel_at v j) (sym seen) ∙ (at.is ∙ made)))

  module _ (shape : Shape) (told : (kind : ℕ) → slice_get kinds j ≡ Some kind → slice_get shapes kind ≡ Some shape) where
    read : IsKernelAt shapes kinds origins j
    read = shaped_at shapes kinds origins j are in_kinds

    here : slice_get shapes read.kind ≡ Some shape
    here = told read.kind read.has

    same : read.shaped.shape ≡ shape
    same = let e : Some read.shaped.shape ≡ Some shape = sym read.shaped.is ∙ here in cc

    pub slotted_here : AreSlotted (list_at origins j) shape.slotted.items
    slotted_here = subst (λ (s : Shape). AreSlotted (list_at origins j) s.slotted.items) same read.shaped.slotted

    kernel_here : kernel_at view j ≡ kernel_of (Some shape) read.kind (list_at origins j)
    kernel_here = ap (λ (v : List Kernel). kernel_at v j) (sym seen) ∙ (read.is ∙ ap (λ s. kernel_of s read.kind (list_at origins j)) here)

    pub packed_here : placed_all (list_at origins j) shape.slotted.items ≡ (kernel_at view j).packed
    packed_here = ap (λ (k : Kernel). k.packed) (sym kernel_here)

    pub begun_here : shape.begun ≡ (kernel_at view j).begun
    begun_here = ap (λ (k : Kernel). k.begun) (sym kernel_here)

-- more shapes
module _ (old new : List Shape) (kept : (k : ℕ) (s : Shape) → slice_get old k ≡ Some s → slice_get new k ≡ Some s) where
  pub shaped_still : (kinds : List ℕ) (origins : List (List ℕ)) → AreShaped old kinds origins → AreShaped new kinds origins
  shaped_still [] [] are = are
  shaped_still [] (o ∷ rows) are = absurd are
  shaped_still (k ∷ kinds) [] are = absurd are
  shaped_still (k ∷ kinds) (o ∷ rows) (is, are) = (record { shape = is.shape; is = kept k is.shape is.is; slotted = is.slotted }, shaped_still kinds rows are)

  pub kernels_still : (kinds : List ℕ) (origins : List (List ℕ)) → AreShaped old kinds origins → kernels_of new kinds origins ≡ kernels_of old kinds origins
  kernels_still [] [] are = refl
  kernels_still [] (o ∷ rows) are = absurd are
  kernels_still (k ∷ kinds) [] are = absurd are
  kernels_still (k ∷ kinds) (o ∷ rows) (is, are) =
      let rest = kernels_still kinds rows are in
      let head : kernel_of (slice_get new k) k o ≡ kernel_of (slice_get old k) k o = ap (λ s. kernel_of s k o) (kept k is.shape is.is ∙ sym is.is) in
      λ i. head i ∷ rest i

-- one kernel more
module _ (shapes : List Shape) (kind : ℕ) (row : List ℕ) (shape : Shape) (is : IsShapeAt shapes shape kind) (slotted : AreSlotted row shape.slotted.items) where
  shaped_new : IsShaped shapes kind row
  shaped_new = record { shape = is.found; is = is.is; slotted = subst (AreSlotted row) (sym is.slotted) slotted }

  pub shaped_pushed : (kinds : List ℕ) (origins : List (List ℕ)) → AreShaped shapes kinds origins → AreShaped shapes (kinds ++ kind ∷ []) (origins ++ row ∷ [])
  shaped_pushed [] [] are = (shaped_new, tt)
  shaped_pushed [] (o ∷ rows) are = absurd are
  shaped_pushed (k ∷ kinds) [] are = absurd are
  shaped_pushed (k ∷ kinds) (o ∷ rows) (first, are) = (first, shaped_pushed kinds rows are)

  module _ (packed : List ℕ) (same : placed_all row shape.slotted.items ≡ packed) where
    kernel_new : kernel_of (slice_get shapes kind) kind row ≡ record { begun = shape.begun; packed = packed; kind = kind }
    kernel_new =
        ap (λ s. kernel_of s kind row) is.is
        ∙ (λ i. record { begun = is.begun i; packed = (ap (placed_all row) is.slotted ∙ same) i; kind = kind })

    pub kernels_pushed : (kinds : List ℕ) (origins : List (List ℕ)) → AreShaped shapes kinds origins →
        kernels_of shapes (kinds ++ kind ∷ []) (origins ++ row ∷ []) ≡ kernels_of shapes kinds origins ++ (record { begun = shape.begun; packed = packed; kind = kind }) ∷ []
    kernels_pushed [] [] are = λ i. kernel_new i ∷ []
    kernels_pushed [] (o ∷ rows) are = absurd are
    kernels_pushed (k ∷ kinds) [] are = absurd are
    kernels_pushed (k ∷ kinds) (o ∷ rows) (first, are) = ap (λ l. kernel_of (slice_get shapes k) k o ∷ l) (kernels_pushed kinds rows are)

-- kernels of one shape
module _ (shapes : List Shape) (kinds : List ℕ) (origins : List (List ℕ)) (view : List Kernel) (are : AreShaped shapes kinds origins) (seen : kernels_of shapes kinds origins ≡ view) where
  -- the kernel of a row whose kind is told
  module _ (j : ℕ) (lt : j < length view) (kind : ℕ) (has : slice_get kinds j ≡ Some kind) (shape : Shape) (is : slice_get shapes kind ≡ Some shape) where
    told : (k : ℕ) → slice_get kinds j ≡ Some k → slice_get shapes k ≡ Some shape
    told k e = let same : k ≡ kind = by k kind (sym e ∙ has) in ap (slice_get shapes) same ∙ is
      where
        by : (a b : ℕ) → Some a ≡ Some b → a ≡ b
        by a b e = cc

    pub begun_told : shape.begun ≡ (kernel_at view j).begun
    begun_told = begun_here shapes kinds origins view are seen j lt shape told

    pub dotted_told : dotted_of shape.slotted.items ≡ dotted_of (kernel_at view j).packed
    dotted_told =
        sym (dotted_placed (list_at origins j) shape.slotted.items (slotted_here shapes kinds origins view are seen j lt shape told))
        ∙ ap dotted_of (packed_here shapes kinds origins view are seen j lt shape told)

  module _ (i j : ℕ) (li : i < length view) (lj : j < length view) (e : (kernel_at view i).kind ≡ (kernel_at view j).kind) where
    abbrev a : ℕ
    a = slice_index_or kinds i 0

    hi : slice_get kinds i ≡ Some a
    hi = slice_get-get_or kinds i 0 (in_kinds shapes kinds origins view are seen i li)

    hj : slice_get kinds j ≡ Some a
    hj =
        slice_get-get_or kinds j 0 (in_kinds shapes kinds origins view are seen j lj)
        ∙ ap Some (kind_here shapes kinds origins view are seen j lj ∙ (sym e ∙ sym (kind_here shapes kinds origins view are seen i li)))

    at : IsKernelAt shapes kinds origins i
    at = shaped_at shapes kinds origins i are (in_kinds shapes kinds origins view are seen i li)

    same_kind : (x y : ℕ) → Some x ≡ Some y → x ≡ y
    same_kind x y h = cc

    is : slice_get shapes a ≡ Some at.shaped.shape
    is = ap (slice_get shapes) (same_kind a at.kind (sym hi ∙ at.has)) ∙ at.shaped.is

    pub same_begun : (kernel_at view i).begun ≡ (kernel_at view j).begun
    same_begun = sym (begun_told i li a hi at.shaped.shape is) ∙ begun_told j lj a hj at.shaped.shape is

    pub same_dotted : dotted_of (kernel_at view i).packed ≡ dotted_of (kernel_at view j).packed
    same_dotted = sym (dotted_told i li a hi at.shaped.shape is) ∙ dotted_told j lj a hj at.shaped.shape is
