-- The numbers that are noted for lists of symbols.
use Rattle.std.proofs.Common.{◌≡◌, ◌⊎◌, inl, inr, ℕ, zero, suc, List, [], ◌∷◌, Bool, true, false, cond, if◌then◌else◌, Option, Some, None, refl, sym, ap, ◌∙◌, arith}
use Rattle.std.specs.Prelude.{nat_eq}
use Rattle.std.specs.Option.{IfSome}
use Rattle.indexmap.specs.IndexMap.{insert_entry}
use Rattle.std.specs.declared.vec.Vec.{Vec}
use Rattle.std.specs.declared.alloc.Global.{Global}
use Rattle.std.specs.Cmp.Lexicographic.{pointwise}
use Rattle.std.specs.Map.{lookup}
use Rattle.std.proofs.lemmas.Bool.Decides.{Decides-eqb}
use Rattle.std.proofs.lemmas.Slice.Eq.{slice_eq-Decides}
use Rattle.begun_lists.specs.Begun.{IsNoted}

abbrev pub Entries : Type 0
Entries = List (Vec ℕ Global × ℕ)

later_noted : (x : Vec ℕ Global × ℕ) (xs : Entries) (symbols : List ℕ) (s : ℕ) → IsNoted xs symbols s → IsNoted (x ∷ xs) symbols s
later_noted x xs symbols s (v, (k, lt, at), same) = (v, (suc k, omega arith, at), same)

pub found_noted : (entries : Entries) (symbols : List ℕ) (s : ℕ) → lookup (λ (k : Vec ℕ Global). pointwise nat_eq symbols k.items) entries ≡ Some s → IsNoted entries symbols s
found_noted [] symbols s e = absurd (cc)
found_noted (x ∷ xs) symbols s e = by (pointwise nat_eq symbols x.0.items) refl e (λ rest. found_noted xs symbols s rest)
  where
    by : (b : Bool) → pointwise nat_eq symbols x.0.items ≡ b → cond b (Some x.1) (lookup (λ (k : Vec ℕ Global). pointwise nat_eq symbols k.items) xs) ≡ Some s → (lookup (λ (k : Vec ℕ Global). pointwise nat_eq symbols k.items) xs ≡ Some s → IsNoted xs symbols s) → IsNoted (x ∷ xs) symbols s
    by true h f rec =
        let here : x.1 ≡ s = cc in
        (x.0, (0, omega arith, ap (λ z. (x.0, z)) here), sym ((slice_eq-Decides Decides-eqb symbols x.0.items (pointwise nat_eq symbols x.0.items) refl).0 h))
    by false h f rec = later_noted x xs symbols s (rec f)

pub some_noted : (o : Option ℕ) (entries : Entries) (symbols : List ℕ) → o ≡ lookup (λ (k : Vec ℕ Global). pointwise nat_eq symbols k.items) entries → IfSome o (IsNoted entries symbols)
some_noted None entries symbols e = tt
some_noted (Some s) entries symbols e = found_noted entries symbols s (sym e)

abbrev pub vec_eq : Vec ℕ Global → Vec ℕ Global → Bool
vec_eq x y = pointwise nat_eq x.items y.items

abbrev pub Either : Entries → Vec ℕ Global → ℕ → List ℕ → ℕ → Type 0
Either entries v number symbols s = IsNoted entries symbols s ⊎ ((symbols ≡ v.items) × (s ≡ number))

later_either : (x : Vec ℕ Global × ℕ) (xs : Entries) (v : Vec ℕ Global) (number : ℕ) (symbols : List ℕ) (s : ℕ) → Either xs v number symbols s → Either (x ∷ xs) v number symbols s
later_either x xs v number symbols s (inl h) = inl (later_noted x xs symbols s h)
later_either x xs v number symbols s (inr e) = inr e

-- an entry in place of the first one
first_either : (x : Vec ℕ Global × ℕ) (xs : Entries) (v : Vec ℕ Global) (number : ℕ) (symbols : List ℕ) (s : ℕ) → v.items ≡ x.0.items → IsNoted ((x.0, number) ∷ xs) symbols s → Either (x ∷ xs) v number symbols s
first_either x xs v number symbols s is (w, (zero, lt, e), same) = inr (sym same ∙ (ap (λ (p : Vec ℕ Global × ℕ). p.0.items) (sym e) ∙ sym is), ap (λ (p : Vec ℕ Global × ℕ). p.1) (sym e))
first_either x xs v number symbols s is (w, (suc k, lt, e), same) = inl (w, (suc k, omega arith, e), same)

other_either : (x : Vec ℕ Global × ℕ) (xs more : Entries) (v : Vec ℕ Global) (number : ℕ) (symbols : List ℕ) (s : ℕ) → (IsNoted more symbols s → Either xs v number symbols s) → IsNoted (x ∷ more) symbols s → Either (x ∷ xs) v number symbols s
other_either x xs more v number symbols s rec (w, (zero, lt, e), same) = inl (w, (zero, omega arith, e), same)
other_either x xs more v number symbols s rec (w, (suc k, lt, e), same) = later_either x xs v number symbols s (rec (w, (k, omega arith, e), same))

-- what is there after one more begin
pub noted_before : (entries : Entries) (v : Vec ℕ Global) (number : ℕ) (symbols : List ℕ) (s : ℕ) → IsNoted (insert_entry vec_eq entries v number) symbols s → Either entries v number symbols s
noted_before [] v number symbols s (w, (zero, lt, e), same) = inr (sym same ∙ ap (λ (p : Vec ℕ Global × ℕ). p.0.items) (sym e), ap (λ (p : Vec ℕ Global × ℕ). p.1) (sym e))
noted_before [] v number symbols s (w, (suc k, lt, e), same) = absurd (omega arith)
noted_before (x ∷ xs) v number symbols s h = by (vec_eq v x.0) refl h (λ rest. noted_before xs v number symbols s rest)
  where
    by : (b : Bool) → vec_eq v x.0 ≡ b → IsNoted (if b then (x.0, number) ∷ xs else x ∷ insert_entry vec_eq xs v number) symbols s → (IsNoted (insert_entry vec_eq xs v number) symbols s → Either xs v number symbols s) → Either (x ∷ xs) v number symbols s
    by true e has rec = first_either x xs v number symbols s ((slice_eq-Decides Decides-eqb v.items x.0.items (vec_eq v x.0) refl).0 e) has
    by false e has rec = other_either x xs (insert_entry vec_eq xs v number) v number symbols s rec has
