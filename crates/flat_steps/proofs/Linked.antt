-- Stacks in one list of rows, when rows are added or cut off.
use Rattle.std.proofs.Common.{◌≡◌, ℕ, zero, suc, ◌<◌, ◌≤◌, List, [], ◌∷◌, ◌++◌, length, take, drop, Some, refl, sym, ap, ◌∙◌, subst, append_assoc, arith}
use Rattle.std.specs.Prelude.{slice_get, slice_index_or}
use Rattle.std.proofs.lemmas.Option.{slice_get_within}
use Rattle.std.proofs.lemmas.List.{append-nil}
use Rattle.finite_sets.proofs.Lists.{get_left, get_last}
use Rattle.flat_steps.specs.Linked.{IsLinked, Grows}

pub index_is : {X : Type 0} (xs : List X) (k : ℕ) (x d : X) → slice_get xs k ≡ Some x → slice_index_or xs k d ≡ x
index_is [] k x d e = cc
index_is (y ∷ xs) zero x d e = cc
index_is (y ∷ xs) (suc k) x d e = index_is xs k x d e

pub get_taken : {X : Type 0} (xs : List X) (k n : ℕ) (x : X) → n < k → slice_get xs n ≡ Some x → slice_get (take k xs) n ≡ Some x
get_taken [] k n x lt e = cc
get_taken (y ∷ xs) zero n x lt e = absurd (omega arith)
get_taken (y ∷ xs) (suc k) zero x lt e = e
get_taken (y ∷ xs) (suc k) (suc n) x lt e = get_taken xs k n x (omega arith) e

pub drop_from : {X : Type 0} (xs : List X) (k : ℕ) (x : X) → slice_get xs k ≡ Some x → drop k xs ≡ x ∷ drop (suc k) xs
drop_from [] k x e = cc
drop_from (y ∷ xs) zero x e = ap (λ z. z ∷ xs) (let same : y ≡ x = cc in same)
drop_from (y ∷ xs) (suc k) x e = drop_from xs k x e

pub linked_more : {R V : Type 0} (value : R → V) (below : R → ℕ) (rows more : List R) (top : ℕ) (vs : List V) → IsLinked value below rows top vs → IsLinked value below (rows ++ more) top vs
linked_more value below rows more top [] h = h
linked_more value below rows more top (v ∷ vs) (t, h) = (
  record { place = t.place; row = t.row; top_is = t.top_is; row_is = get_left rows more t.place t.row t.row_is; value_is = t.value_is; under = t.under },
  linked_more value below rows more (below t.row) vs h,
)

pub linked_taken : {R V : Type 0} (value : R → V) (below : R → ℕ) (rows : List R) (k top : ℕ) (vs : List V) → top ≤ k → IsLinked value below rows top vs → IsLinked value below (take k rows) top vs
linked_taken value below rows k top [] le h = h
linked_taken value below rows k top (v ∷ vs) le (t, h) =
    let e = t.top_is in
    let u = t.under in
    let lt : t.place < k = omega arith in
    let le' : below t.row ≤ k = omega arith in (
      record { place = t.place; row = t.row; top_is = t.top_is; row_is = get_taken rows k t.place t.row lt t.row_is; value_is = t.value_is; under = t.under },
      linked_taken value below rows k (below t.row) vs le' h,
    )

pub linked_bound : {R V : Type 0} (value : R → V) (below : R → ℕ) (rows : List R) (top : ℕ) (vs : List V) → IsLinked value below rows top vs → top ≤ length rows
linked_bound value below rows top [] h = omega arith
linked_bound value below rows top (v ∷ vs) (t, h) =
    let e = t.top_is in
    let w = slice_get_within rows t.place t.row t.row_is in
    omega arith

pub linked_push : {R V : Type 0} (value : R → V) (below : R → ℕ) (rows : List R) (row : R) (vs : List V) → IsLinked value below rows (below row) vs → IsLinked value below (rows ++ row ∷ []) (suc (length rows)) (value row ∷ vs)
linked_push value below rows row vs h = (
  record { place = length rows; row = row; top_is = refl; row_is = get_last rows row; value_is = refl; under = linked_bound value below rows (below row) vs h },
  linked_more value below rows (row ∷ []) (below row) vs h,
)

-- at the bottom there is nothing
pub linked_none : {R V : Type 0} (value : R → V) (below : R → ℕ) (rows : List R) (vs : List V) → IsLinked value below rows 0 vs → vs ≡ []
linked_none value below rows [] h = refl
linked_none value below rows (v ∷ vs) (t, h) =
    let e = t.top_is in
    absurd (omega arith)

pub record IsOn {R V : Type 0} (value : R → V) (below : R → ℕ) (rows : List R) (v : V) (under : ℕ) (vs : List V) : Type 0 where
  pub rest : List V
  pub both : vs ≡ v ∷ rest
  pub linked : IsLinked value below rows under rest

-- the topmost is that of the row there
pub linked_top : {R V : Type 0} (value : R → V) (below : R → ℕ) (rows : List R) (place : ℕ) (row : R) (vs : List V) → slice_get rows place ≡ Some row →
    IsLinked value below rows (suc place) vs → IsOn value below rows (value row) (below row) vs
linked_top value below rows place row [] e h = absurd (omega (arith, h))
linked_top value below rows place row (v ∷ vs) e (t, h) =
    let te = t.top_is in
    let here : t.place ≡ place = omega arith in
    let there : slice_get rows place ≡ Some t.row = subst (λ k. slice_get rows k ≡ Some t.row) here t.row_is in
    let same : t.row ≡ row = cc in
    record {
      rest = vs;
      both = ap (λ x. x ∷ vs) (sym t.value_is ∙ ap value same);
      linked = subst (λ (r : _). IsLinked value below rows (below r) vs) same h;
    }

pub grows_none : {R : Type 0} (rows : List R) → Grows rows rows
grows_none rows = record { more = []; is = sym (append-nil rows) }

pub grows_then : {R : Type 0} (a b c : List R) → Grows a b → Grows b c → Grows a c
grows_then a b c g h = record { more = g.more ++ h.more; is = h.is ∙ ap (λ l. l ++ h.more) g.is ∙ append_assoc a g.more h.more }
