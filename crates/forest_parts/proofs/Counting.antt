-- How many values have a property.
use Rattle.std.proofs.Common.{◌≡◌, ◌⊎◌, inl, inr, ◌↔◌, ℕ, ◌+◌, ◌≤◌, List, [], ◌∷◌, ◌++◌, map, Contains, refl, sym, ◌∙◌, ap, subst, arith}
use Rattle.std.proofs.lemmas.List.{length-append, length-map}
use Rattle.finite_sets.proofs.Lists.{Contains-none, Contains-map}
use Rattle.finite_sets.proofs.Members.{Among, Once, among_from, contains_from, among_either, among_left, among_right, among_map_from, once_pairs, pairs_once, once_most, once_append}
use Rattle.recognizer_model.specs.declared.Item.{Item}
use Rattle.recognizer_model.specs.Counts.{IsCountOf}
use Rattle.recognizer_model.specs.Nodes.{Placed}
use Rattle.earley_sets.proofs.Membership.{Contains-map_from}
use Rattle.forest_parts.specs.Hidden.{AreAtLeast, RisesWithin, RisesBy}

once_map : {X Y : Type 0} (f : X → Y) → ((a b : X) → f a ≡ f b → a ≡ b) → (xs : List X) → Once xs → Once (map f xs)
once_map f one [] h = tt
once_map f one (x ∷ xs) (fresh, h) = ((λ m. let (y, i, e) = among_map_from f (f x) xs m in fresh (subst (λ z. Among z xs) (one y x e) i)), once_map f one xs h)

module _ {X : Type 0} (P : X → Type 0) where
  pub none_at_least : AreAtLeast P 0
  none_at_least = ([], once_pairs [] tt, (λ x h. absurd (Contains-none x h)), refl)

  pub none_counted : ((x : X) → P x → ⊥) → IsCountOf P 0
  none_counted never = ([], record { once = once_pairs [] tt; exact = λ x. ((λ h. absurd (Contains-none x h)), (λ p. absurd (never x p))) }, refl)

  -- different values with the property are no more than all of them
  pub at_most : (m n : ℕ) → AreAtLeast P m → IsCountOf P n → m ≤ n
  at_most m n (xs, once, are, e) (ys, l, e') =
      let le = once_most xs ys (pairs_once xs once) (λ x h. among_from ys x ((l.exact x).1 (are x (contains_from xs x h)))) in
      omega arith

  pub rises_none : (k : ℕ) → RisesWithin P k k
  rises_none k = (0, none_at_least, omega arith)

  pub rises_none_by : (k : ℕ) → ((x : X) → P x → ⊥) → RisesBy P k k
  rises_none_by k never = (0, none_counted never, omega arith)

  pub rises_most : (k l n : ℕ) → RisesWithin P k l → IsCountOf P n → l ≤ k + n
  rises_most k l n (m, some, e) all = let le = at_most m n some all in omega arith

module _ {X : Type 0} (P Q : X → Type 0) where
  pub at_least_of : (n : ℕ) → ((x : X) → P x → Q x) → AreAtLeast P n → AreAtLeast Q n
  at_least_of n f (xs, once, are, e) = (xs, once, (λ x h. f x (are x h)), e)

  pub count_of : (n : ℕ) → ((x : X) → P x ↔ Q x) → IsCountOf P n → IsCountOf Q n
  count_of n f (xs, l, e) = (xs, record { once = l.once; exact = λ x. ((λ h. (f x).0 ((l.exact x).0 h)), (λ q. (l.exact x).1 ((f x).1 q))) }, e)

  pub rises_of : (k l : ℕ) → ((x : X) → P x → Q x) → RisesWithin P k l → RisesWithin Q k l
  rises_of k l f (n, some, e) = (n, at_least_of n f some, e)

  pub rises_by_of : (k l : ℕ) → ((x : X) → P x ↔ Q x) → RisesBy P k l → RisesBy Q k l
  rises_by_of k l f (n, all, e) = (n, count_of n f all, e)

-- values of two kinds
module _ {X : Type 0} (P Q R : X → Type 0) (apart : (x : X) → P x → Q x → ⊥) (first : (x : X) → P x → R x) (second : (x : X) → Q x → R x) where
  pub at_least_both : (m n : ℕ) → AreAtLeast P m → AreAtLeast Q n → AreAtLeast R (m + n)
  at_least_both m n (xs, once, are, e) (ys, once', are', e') = (
    xs ++ ys,
    once_pairs (xs ++ ys) (once_append xs ys (pairs_once xs once) (pairs_once ys once') (λ x a b. apart x (are x (contains_from xs x a)) (are' x (contains_from ys x b)))),
    (λ x h. elim (among_either x xs ys (among_from (xs ++ ys) x h)) [ inl a ↦ first x (are x (contains_from xs x a)) | inr b ↦ second x (are' x (contains_from ys x b)) ]),
    (let l = length-append xs ys in omega arith),
  )

  pub count_both : (m n : ℕ) → ((x : X) → R x → P x ⊎ Q x) → IsCountOf P m → IsCountOf Q n → IsCountOf R (m + n)
  count_both m n parted (xs, l, e) (ys, l', e') = (
    xs ++ ys,
    record {
      once = once_pairs (xs ++ ys) (once_append xs ys (pairs_once xs l.once) (pairs_once ys l'.once) (λ x a b. apart x ((l.exact x).0 (contains_from xs x a)) ((l'.exact x).0 (contains_from ys x b))));
      exact = λ x. (
        λ h. elim (among_either x xs ys (among_from (xs ++ ys) x h)) [ inl a ↦ first x ((l.exact x).0 (contains_from xs x a)) | inr b ↦ second x ((l'.exact x).0 (contains_from ys x b)) ],
        λ h. contains_from (xs ++ ys) x (elim (parted x h) [ inl p ↦ among_left x xs ys (among_from xs x ((l.exact x).1 p)) | inr q ↦ among_right x xs ys (among_from ys x ((l'.exact x).1 q)) ]),
      );
    },
    (let s = length-append xs ys in omega arith),
  )

-- the items of one place
abbrev pub at_place : ℕ → Item → Placed
at_place end item = record { place = end; item = item }

module _ (end : ℕ) (P : Item → Type 0) (Q : Placed → Type 0) (into : (item : Item) → P item → Q (at_place end item)) where
  placed_once : (xs : List Item) → Once xs → Once (map (at_place end) xs)
  placed_once xs h = once_map (at_place end) (λ a b e. ap (λ (p : Placed). p.item) e) xs h

  placed_are : (xs : List Item) → ((item : Item) → Contains xs item → P item) → (p : Placed) → Contains (map (at_place end) xs) p → Q p
  placed_are xs are p h = let (item, i, e) = Contains-map_from (at_place end) xs p h in subst Q (sym e) (into item (are item i))

  pub at_least_placed : (n : ℕ) → AreAtLeast P n → AreAtLeast Q n
  at_least_placed n (xs, once, are, e) = (map (at_place end) xs, once_pairs (map (at_place end) xs) (placed_once xs (pairs_once xs once)), placed_are xs are, length-map xs (at_place end) ∙ e)

  pub count_placed : (n : ℕ) → ((p : Placed) → Q p → (p.place ≡ end) × P p.item) → IsCountOf P n → IsCountOf Q n
  count_placed n out (xs, l, e) = (
    map (at_place end) xs,
    record {
      once = once_pairs (map (at_place end) xs) (placed_once xs (pairs_once xs l.once));
      exact = λ p. (
        placed_are xs (λ item h. (l.exact item).0 h) p,
        λ q. (let (same, h) = out p q in subst (λ z. Contains (map (at_place end) xs) z) (λ i. record { place = sym same i; item = p.item }) (Contains-map (at_place end) xs p.item ((l.exact p.item).1 h))),
      );
    },
    length-map xs (at_place end) ∙ e,
  )
