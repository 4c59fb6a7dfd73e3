-- The same count of other values.
use Rattle.std.proofs.Common.{◌≡◌, ◌∙◌, ℕ, List, [], ◌∷◌, map, refl, sym, ap, subst, inl, inr}
use Rattle.std.proofs.lemmas.List.{length-map}
use Rattle.finite_sets.proofs.Members.{Among, Once, among_from, contains_from, among_map, among_map_from, once_pairs, pairs_once}
use Rattle.recognizer_model.specs.Counts.{IsCountOf}

once_map : {X Y : Type 0} (to : X → Y) (from : Y → X) (xs : List X) → ((x : X) → Among x xs → from (to x) ≡ x) → Once xs → Once (map to xs)
once_map to from [] back once = tt
once_map to from (x ∷ xs) back (fresh, once) = (
  λ m. (let (y, among, e) = among_map_from to (to x) xs m in fresh (subst (λ z. Among z xs) (sym (back y (inr among)) ∙ ap from e ∙ back x (inl refl)) among)),
  once_map to from xs (λ y among. back y (inr among)) once,
)

pub counts_over : {X Y : Type 0} (P : X → Type 0) (Q : Y → Type 0) (to : X → Y) (from : Y → X) → ((x : X) → P x → Q (to x)) → ((y : Y) → Q y → P (from y)) →
    ((x : X) → P x → from (to x) ≡ x) → ((y : Y) → Q y → to (from y) ≡ y) → (n : ℕ) → IsCountOf P n → IsCountOf Q n
counts_over P Q to from there back same again n (xs, is, count) = (
  map to xs,
  record {
    once = once_pairs (map to xs) (once_map to from xs (λ x among. same x ((is.exact x).0 (contains_from xs x among))) (pairs_once xs is.once));
    exact = λ y. (
      λ c. (let (x, among, e) = among_map_from to y xs (among_from (map to xs) y c) in subst Q e (there x ((is.exact x).0 (contains_from xs x among)))),
      λ q. contains_from (map to xs) y (subst (λ z. Among z (map to xs)) (again y q) (among_map to (from y) xs (among_from xs (from y) ((is.exact (from y)).1 (back y q))))),
    );
  },
  length-map xs to ∙ count,
)
