-- Packed items that are held against slotted ones, and shapes that they are of.
use Rattle.std.proofs.Common.{◌≡◌, ℕ, zero, ◌%◌, ◌<◌, ◌++◌, List, [], ◌∷◌, length, Bool, Some, slice_get, Contains, suc, refl, sym, ◌∙◌, ap, subst, arith}
use Rattle.std.specs.Prelude.{slice_index_or, Result, Ok, Err, IfOk, IsTrue}
use Rattle.std.specs.declared.alloc.AllocError.{AllocError}
use Rattle.kernels.specs.declared.shapes.Shape.{Shape}
use Rattle.kernels.specs.Slots.{Rises, placed, placed_all, IsPlaced, AreOrigins, AreSlotted}
use Rattle.kernels.specs.Shapes.{kernels_of, AreShaped, IsShapeAt, IsOfShape}
use Rattle.kernels.proofs.Numbers.{index_any}
use Rattle.kernels.proofs.Slotting.{placed_rise}
use Rattle.kernels.proofs.Shaping.{shaped_pushed, kernels_pushed}

-- items that are placed one by one as packed items that rise
module _ (origins slotted packed : List ℕ) (rises : Rises packed) (long : length slotted ≡ length packed) (all : (k : ℕ) → k < length slotted → IsPlaced origins (slice_index_or slotted k 0) (slice_index_or packed k 0)) where
  pub placed_same : placed_all origins slotted ≡ packed
  placed_same = go slotted packed long (λ k lt. (all k lt).1)
    where
      go : (slotted packed : List ℕ) → length slotted ≡ length packed → ((k : ℕ) → k < length slotted → placed origins (slice_index_or slotted k 0) ≡ slice_index_or packed k 0) → placed_all origins slotted ≡ packed
      go [] [] long all = refl
      go [] (y ∷ ys) long all = absurd (omega arith)
      go (x ∷ xs) [] long all = absurd (omega arith)
      go (x ∷ xs) (y ∷ ys) long all = let head = all 0 (omega arith) in let rest = go xs ys (omega arith) (λ k lt. all (suc k) (omega arith)) in λ i. head i ∷ rest i

  module _ (order : Rises origins) (small : (k d : ℕ) → k < length origins → slice_index_or origins k d < 4294967296) where
    are : AreOrigins origins
    are = record { rise = order; small = λ o (k, lt, e). (let s = small k o lt in omega arith) }

    slots : (n : ℕ) → Contains slotted n → n % 4294967296 < length origins
    slots n (k, lt, e) = subst (λ m. m % 4294967296 < length origins) (index_any slotted k 0 n lt ∙ e) (all k lt).0

    pub placed_slotted : AreSlotted origins slotted
    placed_slotted = record { origins_are = are; rises = placed_rise origins slotted are slots (subst Rises (sym placed_same) rises); slots = slots }

-- one item alone that is placed, if that could be told
pub one_fits : (origins slotted packed : List ℕ) (r : Result Bool AllocError) → Rises packed → length slotted ≡ length packed → length packed ≡ 1 → IfOk r (λ fits. IsTrue fits → origins ≡ slice_index_or packed 0 0 % 4294967296 ∷ []) →
    IfOk r (λ fits. IsTrue fits → IsPlaced origins (slice_index_or slotted 0 0) (slice_index_or packed 0 0)) → IfOk r (λ fits. IsTrue fits → AreSlotted origins slotted)
one_fits origins slotted packed (Ok b) rises long alone one placed = λ t.
    placed_slotted origins slotted packed rises long (λ k lt. (let same : 0 ≡ k = omega arith in subst (λ i. IsPlaced origins (slice_index_or slotted i 0) (slice_index_or packed i 0)) same (placed t)))
    (subst Rises (sym (one t)) (λ i j d lt below. absurd (omega arith)))
    (subst (λ (l : List ℕ). (k d : ℕ) → k < length l → slice_index_or l k d < 4294967296) (sym (one t)) (small (slice_index_or packed 0 0)))
  where
    small : (n k d : ℕ) → k < 1 → slice_index_or (n % 4294967296 ∷ []) k d < 4294967296
    small n zero d lt = omega arith
    small n (suc k) d lt = absurd (omega arith)
one_fits origins slotted packed (Err f) rises long alone one placed = tt

-- items that fit a shape, if that could be told
pub of_shape_fits : (shapes : List Shape) (shape : Shape) (kind begun : ℕ) (packed slotted origins : List ℕ) (r : Result Bool AllocError) → slice_get shapes kind ≡ Some shape → shape.begun ≡ begun → slotted ≡ shape.slotted.items →
    IfOk r (λ fits. IsTrue fits → AreSlotted origins slotted) → IfOk r (λ fits. IsTrue fits → placed_all origins slotted ≡ packed) → IfOk r (λ is. IsTrue is → IsOfShape shapes kind begun packed origins)
of_shape_fits shapes shape kind begun packed slotted origins (Ok b) is same items s p = λ h. record {
  shape = shape;
  is = is;
  begun = same;
  slotted = subst (AreSlotted origins) items (s h);
  packed = ap (placed_all origins) (sym items) ∙ p h;
}
of_shape_fits shapes shape kind begun packed slotted origins (Err f) is same items s p = tt

-- items whose shape is looked up, if it could be
pub of_shape_there : (shapes : List Shape) (shape : Shape) (begun : ℕ) (packed origins : List ℕ) (r : Result ℕ AllocError) → IfOk r (λ n. IsShapeAt shapes shape n) → shape.begun ≡ begun → AreSlotted origins shape.slotted.items → placed_all origins shape.slotted.items ≡ packed →
    IfOk r (λ kind. IsOfShape shapes kind begun packed origins)
of_shape_there shapes shape begun packed origins (Ok n) at b slotted same = record {
  shape = at.found;
  is = at.is;
  begun = at.begun ∙ b;
  slotted = subst (AreSlotted origins) (sym at.slotted) slotted;
  packed = ap (placed_all origins) at.slotted ∙ same;
}
of_shape_there shapes shape begun packed origins (Err f) at b slotted same = tt

-- one kernel more, of a shape that is there
module _ (shapes : List Shape) (kind begun : ℕ) (packed row : List ℕ) (w : IsOfShape shapes kind begun packed row) where
  there : IsShapeAt shapes w.shape kind
  there = record { found = w.shape; is = w.is; begun = refl; slotted = refl }

  pub shaped_of_shape : (kinds : List ℕ) (origins : List (List ℕ)) → AreShaped shapes kinds origins → AreShaped shapes (kinds ++ kind ∷ []) (origins ++ row ∷ [])
  shaped_of_shape kinds origins are = shaped_pushed shapes kind row w.shape there w.slotted kinds origins are

  pub kernels_of_shape : (kinds : List ℕ) (origins : List (List ℕ)) → AreShaped shapes kinds origins →
      kernels_of shapes (kinds ++ kind ∷ []) (origins ++ row ∷ []) ≡ kernels_of shapes kinds origins ++ (record { begun = begun; packed = packed; kind = kind }) ∷ []
  kernels_of_shape kinds origins are =
      kernels_pushed shapes kind row w.shape there w.slotted packed w.packed kinds origins are
      ∙ ap (λ b. kernels_of shapes kinds origins ++ (record { begun = b; packed = packed; kind = kind }) ∷ []) w.begun
