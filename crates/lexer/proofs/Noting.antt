-- A table of steps, by states and classes, and the states that lists of starts begin with.
use Rattle.std.proofs.Common.{◌≡◌, ◌⊎◌, inl, inr, ℕ, zero, suc, ◌+◌, ◌*◌, ◌<◌, List, [], ◌∷◌, Bool, true, false, if◌then◌else◌, slice_get, Some, refl, sym, ap, ◌∙◌, subst, arith}
use Rattle.std.specs.Prelude.{slice_set, nat_eq}
use Rattle.indexmap.specs.IndexMap.{insert_entry}
use Rattle.std.specs.declared.vec.Vec.{Vec}
use Rattle.std.specs.declared.alloc.Global.{Global}
use Rattle.std.specs.Cmp.Lexicographic.{pointwise}
use Rattle.std.proofs.lemmas.Bool.Decides.{Decides-eqb}
use Rattle.std.proofs.lemmas.Slice.Eq.{slice_eq-Decides}
use Rattle.lexer.specs.Machines.{IsNoted, HasBegin}

got_set : (xs : List ℕ) (i v k t : ℕ) → slice_get (slice_set xs i v) k ≡ Some t → (slice_get xs k ≡ Some t) ⊎ ((k ≡ i) × (v ≡ t))
got_set [] i v k t e = inl e
got_set (x ∷ xs) zero v zero t e = inr (refl, cc)
got_set (x ∷ xs) zero v (suc k) t e = inl e
got_set (x ∷ xs) (suc i) v zero t e = inl e
got_set (x ∷ xs) (suc i) v (suc k) t e = elim (got_set xs i v k t e) [ inl o ↦ inl o | inr (a, b) ↦ inr (ap suc a, b) ]

pub noted_set : (xs new : List ℕ) (state class to : ℕ) → class < 128 → new ≡ slice_set xs (state * 128 + class) to → (s c t : ℕ) → c < 128 → IsNoted new s c t → IsNoted xs s c t ⊎ ((s ≡ state) × (c ≡ class) × (t ≡ to))
noted_set xs new state class to small is s c t lt (e, known) = elim (got_set xs (state * 128 + class) to (s * 128 + c) t (subst (λ l. slice_get l (s * 128 + c) ≡ Some t) is e)) [
  | inl o ↦ inl (o, known)
  | inr (place, same) ↦ inr (omega arith, omega arith, sym same)
]

-- ---- begins

abbrev pub Entries : Type 0
Entries = List (Vec ℕ Global × ℕ)

later_begin : (x : Vec ℕ Global × ℕ) (xs : Entries) (starts : List ℕ) (s : ℕ) → HasBegin xs starts s → HasBegin (x ∷ xs) starts s
later_begin x xs starts s (v, (k, lt, at), same) = (v, (suc k, omega arith, at), same)

abbrev pub vec_eq : Vec ℕ Global → Vec ℕ Global → Bool
vec_eq x y = pointwise nat_eq x.items y.items

abbrev pub Either : Entries → Vec ℕ Global → ℕ → List ℕ → ℕ → Type 0
Either entries v state starts s = HasBegin entries starts s ⊎ ((starts ≡ v.items) × (s ≡ state))

later_either : (x : Vec ℕ Global × ℕ) (xs : Entries) (v : Vec ℕ Global) (state : ℕ) (starts : List ℕ) (s : ℕ) → Either xs v state starts s → Either (x ∷ xs) v state starts s
later_either x xs v state starts s (inl h) = inl (later_begin x xs starts s h)
later_either x xs v state starts s (inr e) = inr e

-- an entry in place of the first one
first_either : (x : Vec ℕ Global × ℕ) (xs : Entries) (v : Vec ℕ Global) (state : ℕ) (starts : List ℕ) (s : ℕ) → v.items ≡ x.0.items → HasBegin ((x.0, state) ∷ xs) starts s → Either (x ∷ xs) v state starts s
first_either x xs v state starts s is (w, (zero, lt, e), same) = inr (sym same ∙ (ap (λ (p : Vec ℕ Global × ℕ). p.0.items) (sym e) ∙ sym is), ap (λ (p : Vec ℕ Global × ℕ). p.1) (sym e))
first_either x xs v state starts s is (w, (suc k, lt, e), same) = inl (w, (suc k, omega arith, e), same)

other_either : (x : Vec ℕ Global × ℕ) (xs more : Entries) (v : Vec ℕ Global) (state : ℕ) (starts : List ℕ) (s : ℕ) → (HasBegin more starts s → Either xs v state starts s) → HasBegin (x ∷ more) starts s → Either (x ∷ xs) v state starts s
other_either x xs more v state starts s rec (w, (zero, lt, e), same) = inl (w, (zero, omega arith, e), same)
other_either x xs more v state starts s rec (w, (suc k, lt, e), same) = later_either x xs v state starts s (rec (w, (k, omega arith, e), same))

-- what is there after one more begin
pub noted_begin : (entries : Entries) (v : Vec ℕ Global) (state : ℕ) (starts : List ℕ) (s : ℕ) → HasBegin (insert_entry vec_eq entries v state) starts s → Either entries v state starts s
noted_begin [] v state starts s (w, (zero, lt, e), same) = inr (sym same ∙ ap (λ (p : Vec ℕ Global × ℕ). p.0.items) (sym e), ap (λ (p : Vec ℕ Global × ℕ). p.1) (sym e))
noted_begin [] v state starts s (w, (suc k, lt, e), same) = absurd (omega arith)
noted_begin (x ∷ xs) v state starts s h = by (vec_eq v x.0) refl h (λ rest. noted_begin xs v state starts s rest)
  where
    by : (b : Bool) → vec_eq v x.0 ≡ b → HasBegin (if b then (x.0, state) ∷ xs else x ∷ insert_entry vec_eq xs v state) starts s → (HasBegin (insert_entry vec_eq xs v state) starts s → Either xs v state starts s) → Either (x ∷ xs) v state starts s
    by true e has rec = first_either x xs v state starts s ((slice_eq-Decides Decides-eqb v.items x.0.items (vec_eq v x.0) refl).0 e) has
    by false e has rec = other_either x xs (insert_entry vec_eq xs v state) v state starts s rec has
