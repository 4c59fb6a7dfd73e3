-- Lists in order, of which some elements are kept.
use Rattle.std.proofs.Common.{◌≡◌, ◌⊎◌, inl, inr, ℕ, ◌+◌, ◌<◌, ◌≤◌, ◌++◌, List, [], ◌∷◌, length, get_or, Contains, subst, arith, length-append}
use Rattle.std.specs.List.Sorted.{IsStrictlySortedBy}
use Rattle.std.specs.Prelude.{Result, Ok, Err, IfOk, IsTrue, is_ok}
use Rattle.std.specs.List.{HoldsAt}
use Rattle.std.specs.List.Sorted.{IsSearchInRange}
use Rattle.std.specs.Ordering.{nat_cmp}
use Rattle.std.specs.declared.cmp.Ordering.TheVariants.{Equal}
use Rattle.std.proofs.lemmas.Map.Lookups.{exact_unsigned}
use Rattle.std.proofs.lemmas.Bool.{cases_lt}
use Rattle.std.proofs.lemmas.List.{get_or_append_left, get_or-append-add, get_or_default}
use Rattle.std.proofs.lemmas.Map.Keys.{below_from_sorted, sorted_from_strictly_increasing}

pub sorted_prefix : (cs : List ℕ) (k : ℕ) → IsStrictlySortedBy nat_cmp (cs ++ k ∷ []) → IsStrictlySortedBy nat_cmp cs
sorted_prefix cs k h = sorted_from_strictly_increasing cs (λ i lt.
    let below = below_from_sorted (cs ++ k ∷ []) i (i + 1) 0 h (omega arith) (let l = length-append cs (k ∷ []) in omega arith) in
    let a = get_or_append_left cs (k ∷ []) 0 i (omega arith) in
    let b = get_or_append_left cs (k ∷ []) 0 (i + 1) lt in
    omega arith)

pub sorted_last : (cs : List ℕ) (k x : ℕ) → IsStrictlySortedBy nat_cmp (cs ++ k ∷ []) → Contains cs x → x < k
sorted_last cs k x h (i, lt, e) =
    let below = below_from_sorted (cs ++ k ∷ []) i (length cs + 0) 0 h (omega arith) (let l = length-append cs (k ∷ []) in omega arith) in
    let a = get_or_append_left cs (k ∷ []) 0 i lt in
    let b = get_or-append-add cs (k ∷ []) 0 0 in
    let d = get_or_default cs i 0 x lt in
    omega arith

pub sorted_push : (ms : List ℕ) (k : ℕ) → IsStrictlySortedBy nat_cmp ms → ((x : ℕ) → Contains ms x → x < k) → IsStrictlySortedBy nat_cmp (ms ++ k ∷ [])
sorted_push ms k h below = sorted_from_strictly_increasing (ms ++ k ∷ []) (λ i lt. go i lt (cases_lt (i + 1) (length ms)))
  where
    go : (i : ℕ) → i + 1 < length (ms ++ k ∷ []) → (i + 1 < length ms) ⊎ (length ms ≤ i + 1) → get_or (ms ++ k ∷ []) i 0 < get_or (ms ++ k ∷ []) (i + 1) 0
    go i lt (inl l) =
        let b = below_from_sorted ms i (i + 1) 0 h (omega arith) l in
        let a = get_or_append_left ms (k ∷ []) 0 i (omega arith) in
        let c = get_or_append_left ms (k ∷ []) 0 (i + 1) l in
        omega arith
    go i lt (inr ge) =
        let len = length-append ms (k ∷ []) in
        let at : length ms + 0 ≡ i + 1 = omega arith in
        let inside : i < length ms = omega arith in
        let a = get_or_append_left ms (k ∷ []) 0 i inside in
        let last : get_or (ms ++ k ∷ []) (i + 1) 0 ≡ k = subst (λ z. get_or (ms ++ k ∷ []) z 0 ≡ k) at (get_or-append-add ms (k ∷ []) 0 0) in
        let b = below (get_or ms i 0) (i, inside, get_or_default ms i (get_or ms i 0) 0 inside) in
        omega arith

pub sorted_none : IsStrictlySortedBy nat_cmp []
sorted_none = sorted_from_strictly_increasing [] (λ i lt. absurd (omega arith))

-- what a search finds is there, in whatever order
pub found_there : (xs : List ℕ) (x : ℕ) (r : Result ℕ ℕ) → IsSearchInRange r (length xs) → IfOk r (HoldsAt (λ y. nat_cmp y x ≡ Equal) xs) → IsTrue (is_ok r) → Contains xs x
found_there xs x (Ok k) lt at t = (k, lt, exact_unsigned (get_or xs k x) x (at x))
found_there xs x (Err k) lt at t = absurd (cc)
