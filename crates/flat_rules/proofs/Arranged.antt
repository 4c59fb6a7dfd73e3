-- The flat grammar is arranged: terminals first, by number, and the rules of a symbol together.
use Rattle.std.proofs.Common.{◌≡◌, ℕ, zero, suc, ◌<◌, ◌≤◌, Bool, List, [], ◌∷◌, ◌++◌, ◌⊎◌, inl, inr, Some, refl, ap, ◌∙◌, subst, arith}
use Rattle.std.specs.Prelude.{slice_get, slice_index_or}
use Rattle.grammar_model.specs.Grammar.{Grammar, slot_of}
use Rattle.recognizer_model.specs.Flat.{FlatGrammar, IsRule, lhs_of}
use Rattle.recognizer_model.specs.declared.flat.FlatSymbol.{FlatSymbol}
use Rattle.recognizer_model.specs.declared.flat.FlatSymbol.TheVariants.{Terminal}
use Rattle.recognizer_model.specs.FlatForm.{NamedRule}
use Rattle.recognizer_model.proofs.FlatNamed.{at_among}
use Rattle.flat_model.specs.Flatten
use Rattle.flat_model.specs.Flatten.{Decided}
use Rattle.flat_rules.proofs.Symbols.{symbol_in}
use Rattle.flat_rules.proofs.Rules.{rule_in}
use Rattle.flat_rules.proofs.FlatOf.{no_named, rules_length}
use Rattle.std.specs.Prelude.{filter}
use Rattle.std.specs.List.{AllPairs, flat_map}
use Rattle.std.proofs.lemmas.List.Kept.{AllPairs-filter}
use Rattle.std.proofs.lemmas.Option.{slice_get-get_or}
use Rattle.finite_sets.proofs.Members.{Among, among_at, among_either, among_flat_map_from}
use Rattle.finite_sets.proofs.Lists.{get_map, get_among, get_index, get_mapped}
use Rattle.grammar_model.specs.Simple.{is_terminal, numbers}
use Rattle.recognizer_model.specs.Invariant.{IsArranged}
use Rattle.flat_rules.proofs.Symbols.{later_in}
use Rattle.flat_rules.proofs.FlatOf.{numbers_at, numbers_length}
use Rattle.flat_rules.proofs.Named.{lhs_is, at_number}

-- ---- lists in order, by recursion

abbrev Ordered : {X : Type 0} → (X → X → Type 0) → List X → Type 0
Ordered R [] = Unit {0}
Ordered {X} R (x ∷ xs) = ((y : X) → Among y xs → R x y) × Ordered R xs

ordered_pairs : {X : Type 0} (R : X → X → Type 0) (xs : List X) → Ordered R xs → AllPairs R xs
ordered_pairs R [] h i j d lt within = absurd (omega arith)
ordered_pairs R (x ∷ xs) h i zero d lt within = absurd (omega arith)
ordered_pairs R (x ∷ xs) h zero (suc j) d lt within = h.0 (slice_index_or xs j d) (among_at xs j d (omega arith))
ordered_pairs R (x ∷ xs) h (suc i) (suc j) d lt within = ordered_pairs R xs h.1 i j d (omega arith) (omega arith)

pairs_ordered : {X : Type 0} (R : X → X → Type 0) (xs : List X) → AllPairs R xs → Ordered R xs
pairs_ordered R [] h = tt
pairs_ordered R (x ∷ xs) h = (
  (λ y m. (let (k, lt, e) = at_among xs y x m in subst (R x) e (h 0 (suc k) x (omega arith) (omega arith)))),
  pairs_ordered R xs (λ i j d lt within. h (suc i) (suc j) d (omega arith) (omega arith)),
)

ordered_append : {X : Type 0} (R : X → X → Type 0) (xs ys : List X) → Ordered R xs → Ordered R ys → ((x y : X) → Among x xs → Among y ys → R x y) → Ordered R (xs ++ ys)
ordered_append R [] ys a b across = b
ordered_append R (x ∷ xs) ys a b across =
    ((λ y m. elim (among_either y xs ys m) [ inl n ↦ a.0 y n | inr n ↦ across x y (inl refl) n ]), ordered_append R xs ys a.1 b (λ z y m n. across z y (inr m) n))

ordered_all : {X : Type 0} (R : X → X → Type 0) (xs : List X) → ((x y : X) → Among x xs → Among y xs → R x y) → Ordered R xs
ordered_all R [] h = tt
ordered_all R (x ∷ xs) h = ((λ y m. h x y (inl refl) (inr m)), ordered_all R xs (λ a b m n. h a b (inr m) (inr n)))

ordered_flat_map : {X Y : Type 0} (S : X → X → Type 0) (R : Y → Y → Type 0) (g : X → List Y) (xs : List X) → Ordered S xs → ((x : X) → Among x xs → Ordered R (g x)) →
    ((x z : X) (a b : Y) → Among x xs → Among z xs → S x z → Among a (g x) → Among b (g z) → R a b) → Ordered R (flat_map g xs)
ordered_flat_map S R g [] h each across = tt
ordered_flat_map S R g (x ∷ xs) h each across =
    ordered_append R (g x) (flat_map g xs) (each x (inl refl))
    (ordered_flat_map S R g xs h.1 (λ z m. each z (inr m)) (λ y z a b m n. across y z a b (inr m) (inr n)))
    (λ a b m n. (let (z, p, q) = among_flat_map_from g b xs n in across x z a b (inl refl) (inr p) (h.0 z p) m q))

numbers_ordered : (n : ℕ) → AllPairs (λ x y. x < y) (numbers n)
numbers_ordered n i j d lt within =
    let len = numbers_length n in
    let a = numbers_at n i d (omega arith) in
    let b = numbers_at n j d (omega arith) in
    omega arith

module _ (w : Grammar) (d : Decided w) where
  abbrev f : FlatGrammar
  f = Flatten.flat_of w d

  abbrev number_of : FlatSymbol → ℕ
  number_of = Flatten.number_of w d

  -- ---- terminals

  abbrev passes : ℕ → Bool
  passes s = Rattle.std.specs.Prelude.◌&&◌ (is_terminal w s) (d.used (slot_of s))

  abbrev of_terminals : List ℕ
  of_terminals = filter passes (numbers d.symbols)

  abbrev rest : List FlatSymbol
  rest = Flatten.slots w d ++ (Flatten.lists w d ++ Flatten.tops w d)

  rest_other : (t : ℕ) → Among (Terminal t) rest → ⊥
  rest_other t m = let lt = (later_in w d (Terminal t) m).0 in omega arith

  get_either : (xs ys : List FlatSymbol) (y : ℕ) (s : FlatSymbol) → slice_get (xs ++ ys) y ≡ Some s → (slice_get xs y ≡ Some s) ⊎ Among s ys
  get_either [] ys y s e = inr (get_among ys y s e)
  get_either (x ∷ xs) ys zero s e = inl e
  get_either (x ∷ xs) ys (suc y) s e = get_either xs ys y s e

  get_prefix : (xs ys : List FlatSymbol) (x : ℕ) (s : FlatSymbol) → slice_get xs x ≡ Some s → slice_get (xs ++ ys) x ≡ Some s
  get_prefix [] ys x s e = cc
  get_prefix (y ∷ xs) ys zero s e = e
  get_prefix (y ∷ xs) ys (suc x) s e = get_prefix xs ys x s e

  terminals : (x y t : ℕ) → x < y → slice_get f.symbols y ≡ Some (Terminal t) → (s : ℕ) × (slice_get f.symbols x ≡ Some (Terminal s)) × (s < t)
  terminals x y t lt e = go (get_either (Flatten.terminals w d) rest y (Terminal t) e)
    where
      go : (slice_get (Flatten.terminals w d) y ≡ Some (Terminal t)) ⊎ Among (Terminal t) rest → (s : ℕ) × (slice_get f.symbols x ≡ Some (Terminal s)) × (s < t)
      go (inr m) = absurd (rest_other t m)
      go (inl here) =
          let (u, at, same) = get_mapped Terminal of_terminals y (Terminal t) here in
          let (within, is) = get_index of_terminals y 0 u at in
          let less = AllPairs-filter (λ a b. a < b) passes (numbers d.symbols) (numbers_ordered d.symbols) x y 0 lt within in
          let equal : u ≡ t = cc in
          let first = slice_index_or of_terminals x 0 in
          (first, get_prefix (Flatten.terminals w d) rest x (Terminal first) (get_map Terminal of_terminals x first (slice_get-get_or of_terminals x 0 (omega arith))), subst (λ z. first < z) (is ∙ equal) less)

  -- ---- rules

  abbrev NotAfter : FlatSymbol → FlatSymbol → Type 0
  NotAfter a b = number_of a ≤ number_of b

  abbrev InOrder : NamedRule → NamedRule → Type 0
  InOrder m n = number_of m.left ≤ number_of n.left

  symbols_ordered : Ordered NotAfter f.symbols
  symbols_ordered = pairs_ordered NotAfter f.symbols (λ i j s lt within. (
      let a = at_number w d i (slice_index_or f.symbols i s) (slice_get-get_or f.symbols i s (omega arith)) in
      let b = at_number w d j (slice_index_or f.symbols j s) (slice_get-get_or f.symbols j s within) in omega arith))

  left_of : (x : FlatSymbol) (n : NamedRule) → Among x f.symbols → Among n (Flatten.rules_of w d x) → number_of n.left ≡ number_of x
  left_of x n m a = ap number_of (rule_in w d x n (symbol_in w d x m) a).1

  rules_ordered : Ordered InOrder (Flatten.named_rules w d)
  rules_ordered =
      ordered_flat_map NotAfter InOrder (Flatten.rules_of w d) f.symbols symbols_ordered
      (λ x m. ordered_all InOrder (Flatten.rules_of w d x) (λ a b p q. (let e = left_of x a m p in let g = left_of x b m q in omega arith)))
      (λ x z a b m n le p q. (let e = left_of x a m p in let g = left_of z b n q in omega arith))

  rules : (r s : ℕ) → r < s → IsRule f s → lhs_of f r ≤ lhs_of f s
  rules r s lt is =
      let len = rules_length w d in
      let first : IsRule f r = omega arith in
      let a = lhs_is w d r first in
      let b = lhs_is w d s is in
      let le = ordered_pairs InOrder (Flatten.named_rules w d) rules_ordered r s (no_named w d) lt (omega arith) in
      omega arith

  pub arranged : IsArranged f
  arranged = record { terminals = terminals; rules = rules }
