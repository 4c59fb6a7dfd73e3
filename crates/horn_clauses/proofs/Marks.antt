-- Marks of the numbers that are found.
use Rattle.std.proofs.Common.{arith, ◌≡◌, ◌⊎◌, inl, inr, ℕ, zero, suc, ◌<◌, ◌≤◌, Bool, true, false, List, [], ◌∷◌, ◌++◌, length, Contains, get_or, slice_set, refl, sym, ◌∙◌, ap, subst, true≢false, Result, Ok, Err, if◌then◌else◌}
use Rattle.std.specs.Prelude.{slice_index_or, take, ◌-◌}
use Rattle.std.specs.Result.{is_ok}
use Rattle.std.proofs.Math.ListN.{replicate, get_or-eq_default}
use Rattle.std.proofs.lemmas.List.{take_all, get_or-replicate, length-replicate, get_or-set_same, get_or-set_other}
use Rattle.std.proofs.lemmas.List.Elements.{Contains-append_left, Contains-push, Contains-push_cases}
use Rattle.finite_sets.proofs.Lists.{Contains-none}
use Rattle.horn_clauses.specs.Marks.{AreMarks}
use Rattle.horn_clauses.proofs.Search.{same_or_other}

pub no_marks : AreMarks [] []
no_marks x = (λ t. absurd (true≢false (sym t)), λ h. absurd (Contains-none x h))

pub same_marks : (old new : List Bool) (order : List ℕ) → ((x : ℕ) → slice_index_or new x false ≡ slice_index_or old x false) → AreMarks old order → AreMarks new order
same_marks old new order same are x = (λ t. (are x).0 (sym (same x) ∙ t), λ h. same x ∙ (are x).1 h)

pub mark_added : (marks : List Bool) (order : List ℕ) (x : ℕ) → x < length marks → AreMarks marks order → AreMarks (slice_set marks x true) (order ++ x ∷ [])
mark_added marks order x lt are y = elim (same_or_other y x) [
  | inl same ↦ (
    λ t. subst (Contains (order ++ x ∷ [])) (sym same) (Contains-push order x),
    λ h. ap (λ k. slice_index_or (slice_set marks x true) k false) same ∙ get_or-set_same marks x true false lt,
  )
  | inr ne ↦
      let other : slice_index_or (slice_set marks x true) y false ≡ slice_index_or marks y false = get_or-set_other marks x y true false ne in (
        λ t. Contains-append_left order (x ∷ []) y ((are y).0 (sym other ∙ t)),
        λ h. elim (Contains-push_cases order x y h) [ inl before ↦ other ∙ (are y).1 before | inr now ↦ absurd (ne (sym now)) ],
      )
]

falses : (k x : ℕ) → get_or (replicate k false) x false ≡ false
falses k x = elim (apart x k) [
  | inl lt ↦ get_or-replicate k x false false lt
  | inr le ↦ get_or-eq_default (replicate k false) false (let l = length-replicate k false in omega (arith, l, le))
]
  where
    apart : (a b : ℕ) → (a < b) ⊎ (b ≤ a)
    apart a b = grind arith

padded : (old : List Bool) (k x : ℕ) → get_or (old ++ replicate k false) x false ≡ get_or old x false
padded [] k x = falses k x
padded (b ∷ bs) k zero = refl
padded (b ∷ bs) k (suc x) = padded bs k x

-- marks that were made longer
pub longer_marks : {T E : Type 0} (r : Result T E) (old new : List Bool) (n x : ℕ) → length old ≤ n → new ≡ (if is_ok r then take n old ++ replicate (n - length old) false else old) → slice_index_or new x false ≡ slice_index_or old x false
longer_marks (Ok t) old new n x le e =
    ap (λ (l : List Bool). slice_index_or l x false) e ∙ (ap (λ (l : List Bool). slice_index_or (l ++ replicate (n - length old) false) x false) (take_all n old le) ∙ padded old (n - length old) x)
longer_marks (Err t) old new n x le e = ap (λ (l : List Bool). slice_index_or l x false) e

pub unmarked : (marks : List Bool) (order : List ℕ) (x : ℕ) → AreMarks marks order → length marks ≤ x → Contains order x → ⊥
unmarked marks order x are le h = true≢false (sym ((are x).1 h) ∙ get_or-eq_default marks false le)
