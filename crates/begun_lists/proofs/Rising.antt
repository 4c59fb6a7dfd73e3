-- Numbers that rise by one for each of some different values.
use Rattle.std.proofs.Common.{◌≡◌, ◌≢◌, inl, inr, ℕ, ◌+◌, ◌≤◌, ◌++◌, List, [], ◌∷◌, length, map, Contains, refl, subst, arith, length-append}
use Rattle.std.specs.Prelude.{AllPairs}
use Rattle.std.proofs.lemmas.List.{length-map}
use Rattle.finite_sets.proofs.Lists.{Contains-none}
use Rattle.finite_sets.proofs.Members.{Among, Once, among_from, contains_from, among_either, among_map_from, once_pairs, pairs_once, once_most, once_append}
use Rattle.recognizer_model.specs.Counts.{IsCountOf}
use Rattle.begun_lists.specs.Tried.{RisesWithin}

-- values that differ do so after a function that keeps them apart
once_map : {X Y : Type 0} (P : X → Type 0) (f : X → Y) (xs : List X) → ((x y : X) → P x → P y → f x ≡ f y → x ≡ y) → ((x : X) → Among x xs → P x) → Once xs → Once (map f xs)
once_map P f [] apart are once = tt
once_map P f (x ∷ xs) apart are (fresh, once) = (
  λ m. (let (y, there, e) = among_map_from f (f x) xs m in fresh (subst (λ z. Among z xs) (apart y x (are y (inr there)) (are x (inl refl)) e) there)),
  once_map P f xs apart (λ y m. are y (inr m)) once,
)

pub rises_none : {X : Type 0} (P : X → Type 0) (a b : ℕ) → b ≡ a → RisesWithin P a b
rises_none P a b e = record { values = []; once = λ i j d lt below. absurd (omega arith); are = λ x c. absurd (Contains-none x c); count = omega arith }

pub rises_one : {X : Type 0} (P : X → Type 0) (x : X) (a b : ℕ) → P x → b ≡ a + 1 → RisesWithin P a b
rises_one P x a b p e = record {
  values = x ∷ [];
  once = λ i j d lt below. absurd (omega arith);
  are = λ y c. elim (among_from (x ∷ []) y c) [ inl s ↦ subst P s p | inr n ↦ absurd n ];
  count = omega arith;
}

pub rises_over : {X Y : Type 0} {P : X → Type 0} {a b : ℕ} (Q : Y → Type 0) (f : X → Y) → ((x : X) → P x → Q (f x)) → ((x y : X) → P x → P y → f x ≡ f y → x ≡ y) → RisesWithin P a b → RisesWithin Q a b
rises_over {P = P} Q f to apart r = record {
  values = map f r.values;
  once = once_pairs (map f r.values) (once_map P f r.values apart (λ x m. r.are x (contains_from r.values x m)) (pairs_once r.values r.once));
  are = λ y c. (let (x, there, e) = among_map_from f y r.values (among_from (map f r.values) y c) in subst Q e (to x (r.are x (contains_from r.values x there))));
  count = let l = length-map r.values f in let c = r.count in omega (arith, l, c);
}

-- for each of some different values another, which tells it from the others
module _ {X Y : Type 0} (P : X → Type 0) (Q : X → Y → Type 0) (choose : (x : X) → P x → (y : Y) × Q x y) (apart : (x z : X) (y : Y) → Q x y → Q z y → x ≡ z) where
  abbrev IsChosen : List X → Y → Type 0
  IsChosen xs y = (x : X) × Among x xs × Q x y

  chosen : (xs : List X) → ((x : X) → Among x xs → P x) → Once xs → (ys : List Y) × Once ys × (length ys ≡ length xs) × ((y : Y) → Among y ys → IsChosen xs y)
  chosen [] are once = ([], tt, refl, λ y m. absurd m)
  chosen (x ∷ xs) are (fresh, once) =
      let (ys, rest, n, from) = chosen xs (λ z m. are z (inr m)) once in
      let (y, q) = choose x (are x (inl refl)) in (
        y ∷ ys,
        (λ m. (let (z, there, q') = from y m in fresh (subst (λ w. Among w xs) (apart z x y q' q) there)), rest),
        omega (arith, n),
        λ w m. elim m [ inl e ↦ (x, inl refl, subst (Q x) e q) | inr there ↦ let (z, a, q') = from w there in (z, inr a, q') ],
      )

  pub rises_chosen : {a b : ℕ} → RisesWithin P a b → RisesWithin (λ y. (x : X) × P x × Q x y) a b
  rises_chosen r =
      let (ys, once, n, from) = chosen r.values (λ x m. r.are x (contains_from r.values x m)) (pairs_once r.values r.once) in
      record {
        values = ys;
        once = once_pairs ys once;
        are = λ y c. (let (x, there, q) = from y (among_from ys y c) in (x, r.are x (contains_from r.values x there), q));
        count = let c = r.count in omega (arith, n, c);
      }

pub rises_as : {X : Type 0} {P : X → Type 0} {a b : ℕ} (Q : X → Type 0) → ((x : X) → P x → Q x) → RisesWithin P a b → RisesWithin Q a b
rises_as Q to r = record { values = r.values; once = r.once; are = λ x c. to x (r.are x c); count = r.count }

pub rises_on : {X : Type 0} {P Q : X → Type 0} {a b c : ℕ} (R : X → Type 0) → ((x : X) → P x → R x) → ((x : X) → Q x → R x) → ((x : X) → P x → Q x → ⊥) → RisesWithin P a b → RisesWithin Q b c → RisesWithin R a c
rises_on {a = a} {b = b} {c = c} R left right apart r s = record {
  values = r.values ++ s.values;
  once = once_pairs (r.values ++ s.values) (once_append r.values s.values (pairs_once r.values r.once) (pairs_once s.values s.once)
      (λ x m n. apart x (r.are x (contains_from r.values x m)) (s.are x (contains_from s.values x n))));
  are = λ x h. elim (among_either x r.values s.values (among_from (r.values ++ s.values) x h)) [
    | inl m ↦ left x (r.are x (contains_from r.values x m))
    | inr n ↦ right x (s.are x (contains_from s.values x n))
  ];
  count = let l = length-append r.values s.values in let k = r.count in let m = s.count in omega (arith, l, k, m);
}

-- a rise of the same height
pub rises_moved : {X : Type 0} {P : X → Type 0} {a b : ℕ} (c d : ℕ) → a + d ≡ b + c → RisesWithin P a b → RisesWithin P c d
rises_moved c d e r = record { values = r.values; once = r.once; are = r.are; count = let k = r.count in omega (arith, k, e) }

-- a number rises by no more than there are values
pub different_are_few : {X : Type 0} (P : X → Type 0) (xs : List X) (n : ℕ) → AllPairs (λ x y. x ≢ y) xs → ((x : X) → Contains xs x → P x) → IsCountOf P n → length xs ≤ n
different_are_few P xs n once are (ys, lists, count) =
    let most = once_most xs ys (pairs_once xs once) (λ x m. among_from ys x ((lists.exact x).1 (are x (contains_from xs x m)))) in
    omega (arith, most, count)
