-- Numbers in order, of which one is looked for.
use Rattle.std.proofs.Common.{◌≡◌, inl, inr, ◌↔◌, ℕ, ◌<◌, ◌≤◌, List, length, get_or, Contains, refl, sym, ◌∙◌, subst, arith}
use Rattle.std.specs.Prelude.{Bool, true, Result, Ok, Err, MatchResult, MatchBool, is_ok, IsTrue}
use Rattle.std.specs.Ordering.{nat_cmp}
use Rattle.std.specs.List.Sorted.{IsNonDecreasing, IsBinarySearchResult}
use Rattle.std.proofs.lemmas.Bool.{cases_lt}
use Rattle.std.proofs.lemmas.List.{get_or_default}
use Rattle.std.proofs.lemmas.List.Sorted.{searched}

pub of_true : (b : Bool) (A B : Type 0) → MatchBool b A B → IsTrue b → A
of_true b A B h is = subst (λ (x : Bool). MatchBool x A B) is h

-- what a binary search tells
pub search_tells : (xs : List ℕ) (n : ℕ) (r : Result ℕ ℕ) → IsNonDecreasing xs → IsBinarySearchResult (λ y. nat_cmp y n) xs r → IsTrue (is_ok r) ↔ Contains xs n
search_tells xs n r order h = go r (searched xs n r h (λ i j le lt. order i j 0 le lt))
  where
    go : (r : Result ℕ ℕ) → MatchResult r (λ i. (i < length xs) × (get_or xs i 0 ≡ n)) (λ i. (i ≤ length xs) × ((k : ℕ) → k < i → get_or xs k 0 < n) × ((k : ℕ) → i ≤ k → k < length xs → n < get_or xs k 0)) → IsTrue (is_ok r) ↔ Contains xs n
    go (Ok i) (lt, e) = ((λ _. (i, lt, sym (get_or_default xs i 0 n lt) ∙ e)), (λ _. refl))
    go (Err i) (le, below, above) = (
      (λ t. absurd (cc)),
      (λ (k, lt, e). (
          let same : get_or xs k 0 ≡ n = get_or_default xs k 0 n lt ∙ e in
          absurd (elim (cases_lt k i) [ inl l ↦ let b = below k l in omega arith | inr l ↦ let a = above k l lt in omega arith ]))),
    )
