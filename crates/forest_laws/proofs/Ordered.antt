-- Elements with a decided property, in an order that tells elements apart.
use Rattle.std.proofs.Common.{◌≡◌, ℕ, ◌<◌, List, ◌⊎◌, inl, inr, refl, ap, ◌∙◌}
use Rattle.std.specs.Prelude.{◌↔◌, Contains}
use Rattle.std.specs.List.Sorted.{IsStrictlySortedBy}
use Rattle.std.specs.declared.cmp.Ordering.{Ordering}
use Rattle.std.specs.declared.cmp.Ordering.TheVariants.{Less, Equal, Greater}
use Rattle.std.specs.Ordering.{ordering_reverse}
use Rattle.std.specs.Cmp.{IsTotalOrder}
use Rattle.finite_sets.specs.Decided.{IsDecided}
use Rattle.finite_sets.proofs.Members
use Rattle.finite_sets.proofs.Members.{values, among_values}
use Rattle.finite_sets.proofs.Sorting.{sorted_listed}

three_of : {X : Type 0} (cmp : X → X → Ordering) → IsTotalOrder cmp → ((x y : X) → cmp x y ≡ Equal → x ≡ y) → (x y : X) → (cmp x y ≡ Less) ⊎ ((x ≡ y) ⊎ (cmp y x ≡ Less))
three_of {X} cmp total one x y = go (cmp x y) refl
  where
    go : (o : Ordering) → cmp x y ≡ o → (cmp x y ≡ Less) ⊎ ((x ≡ y) ⊎ (cmp y x ≡ Less))
    go Less e = inl e
    go Equal e = inr (inl (one x y e))
    go Greater e = inr (inr (total.antisymm y x ∙ ap ordering_reverse e))

pub sorted_by : {X : Type 0} (cmp : X → X → Ordering) → IsTotalOrder cmp → ((x y : X) → cmp x y ≡ Equal → x ≡ y) → (P : X → Type 0) (xs : List X) → ((x : X) → IsDecided (P x)) → ((x : X) → P x → Contains xs x) →
    (ys : List X) × IsStrictlySortedBy cmp ys × ((x : X) → Contains ys x ↔ P x)
sorted_by cmp total one P xs d within =
    let (ys, (s, is, all)) = sorted_listed cmp (λ x. Unit {0}) (λ x y a b. three_of cmp total one x y) total.trans P xs (λ x m. tt) (λ x m. d x) in
    (ys, s, λ x. (λ c. (is x (Members.among_from ys x c)).1, λ p. Members.contains_from ys x (all x (Members.among_from xs x (within x p)) p)))

-- numbers below a bound
pub within_values : (n x : ℕ) → x < n → Contains (values (λ i. i) n) x
within_values n x lt = Members.contains_from (values (λ i. i) n) x (among_values (λ i. i) n x lt)
