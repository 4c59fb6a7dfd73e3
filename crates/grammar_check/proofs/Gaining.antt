-- Numbers that are added to a set.
use Rattle.std.proofs.Common.{arith, ◌≡◌, ◌⊎◌, ◌↔◌, inl, inr, ℕ, ◌+◌, ◌-◌, ◌<◌, ◌≤◌, List, [], ◌∷◌, ◌++◌, length, All, Contains, get_or, slice_index, sym, ◌∙◌, ap, subst, append-nil, append_assoc}
use Rattle.std.proofs.lemmas.List.Elements.{Contains-get_or, Contains-append_left, Contains-append_cases, Contains-push, Contains-push_cases}
use Rattle.horn_clauses.specs.Least.{Adds}
use Rattle.jagged.specs.Rows.{row_at}
use Rattle.grammar_check.specs.Links.{Tied, Step, StepsInto, AreRows, IsDown, Gains}
use Rattle.grammar_check.specs.Links.{AreFloors}
use Rattle.horn_clauses.proofs.Search.{same_or_below}
use Rattle.std.proofs.lemmas.List.{get_or_default}
use Rattle.finite_sets.proofs.Lists.{Contains-none}

pub gains_none : (old : List ℕ) (P : ℕ → Type 0) → ((x : ℕ) → P x → ⊥) → Gains old old P
gains_none old P none = record { more = []; extends = sym (append-nil old); only = λ x h. absurd (Contains-none x h); fresh = λ x h. absurd (Contains-none x h); has = λ x p. absurd (none x p) }

one_only : (x y : ℕ) → Contains (x ∷ []) y → y ≡ x
one_only x y h = elim (Contains-push_cases [] x y h) [ inl none ↦ absurd (Contains-none y none) | inr now ↦ sym now ]

pub gains_one : (old new : List ℕ) (x : ℕ) → (Contains old x → ⊥) → Adds old new x → Gains old new (λ y. y ≡ x)
gains_one old new x none (inl (e, there)) = absurd (none there)
gains_one old new x none (inr e) = record {
  more = x ∷ [];
  extends = e;
  only = λ y h. one_only x y h;
  fresh = λ y h there. none (subst (Contains old) (one_only x y h) there);
  has = λ y same. subst (λ l. Contains l y) (sym e) (subst (Contains (old ++ x ∷ [])) (sym same) (Contains-push old x));
}

pub gains_keeps : (old new : List ℕ) (P : ℕ → Type 0) → Gains old new P → (x : ℕ) → Contains old x → Contains new x
gains_keeps old new P g x h = subst (λ l. Contains l x) (sym g.extends) (Contains-append_left old g.more x h)

pub gains_cases : (old new : List ℕ) (P : ℕ → Type 0) → Gains old new P → (x : ℕ) → Contains new x → Contains old x ⊎ P x
gains_cases old new P g x h = elim (Contains-append_cases old g.more x (subst (λ l. Contains l x) g.extends h)) [ inl o ↦ inl o | inr m ↦ inr (g.only x m) ]

pub gains_both : (a b c : List ℕ) (P Q : ℕ → Type 0) → Gains a b P → Gains b c Q → Gains a c (λ x. P x ⊎ Q x)
gains_both a b c P Q g h = record {
  more = g.more ++ h.more;
  extends = h.extends ∙ (ap (λ l. l ++ h.more) g.extends ∙ append_assoc a g.more h.more);
  only = λ x m. elim (Contains-append_cases g.more h.more x m) [ inl l ↦ inl (g.only x l) | inr r ↦ inr (h.only x r) ];
  fresh = λ x m there. elim (Contains-append_cases g.more h.more x m) [ inl l ↦ g.fresh x l there | inr r ↦ h.fresh x r (gains_keeps a b P g x there) ];
  has = λ x p. elim p [ inl l ↦ gains_keeps b c Q h x (g.has x l) | inr r ↦ h.has x r ];
}

pub gains_to : (old new : List ℕ) (P Q : ℕ → Type 0) → ((x : ℕ) → P x → Q x) → ((x : ℕ) → Q x → Contains new x) → Gains old new P → Gains old new Q
gains_to old new P Q to all g = record { more = g.more; extends = g.extends; only = λ x m. to x (g.only x m); fresh = g.fresh; has = all }

pub gains_same : (old new : List ℕ) (P Q : ℕ → Type 0) → ((x : ℕ) → P x ↔ Q x) → Gains old new P → Gains old new Q
gains_same old new P Q same g = gains_to old new P Q (λ x. (same x).0) (λ x q. g.has x ((same x).1 q)) g

pub gains_down : (floors old new : List ℕ) (P : ℕ → Type 0) → IsDown floors old → Gains old new P → ((x y : ℕ) → P y → Tied floors x y → P x) → IsDown floors new
gains_down floors old new P down g closed x h there tied = elim (gains_cases old new P g h there) [
  | inl o ↦ gains_keeps old new P g x (down x h o tied)
  | inr p ↦ g.has x (closed x h p tied)
]

module _ (floors : List ℕ) (f : AreFloors floors) (h : ℕ) (lt : h < length floors) where
  pub tied_down : (x y : ℕ) → Tied floors y h → Tied floors x y → Tied floors x h
  tied_down x y (a, b) (c, d) = let e = f.same h y lt a b in (omega (arith, e, c), omega (arith, b, d))

  abbrev pub Above : ℕ → ℕ → Type 0
  Above k x = (h < x + k) × (x ≤ h)

  pub above_none : (x : ℕ) → Above 0 x → ⊥
  above_none x (a, b) = omega (arith, a, b)

  pub above_more : (k : ℕ) → k ≤ h → (x : ℕ) → (Above k x ⊎ (x ≡ h - k)) ↔ Above (k + 1) x
  above_more k le x = (
    λ p. elim p [ inl (a, b) ↦ (omega (arith, a), b) | inr e ↦ (omega (arith, e, le), omega (arith, e)) ],
    λ (a, b). grind (arith, a, b, le),
  )

  -- all of them, where the next one is there already
  pub above_stop : (old new : List ℕ) (k : ℕ) → IsDown floors old → Gains old new (Above k) → k ≤ h → slice_index floors h ≤ h - k → Contains new (h - k) → Gains old new (λ x. Tied floors x h)
  above_stop old new k down g le above there = gains_to old new (Above k) (λ x. Tied floors x h) (λ x (a, b). (omega (arith, a, above, le), b)) all g
    where
      side : (x : ℕ) → (h < x + k) ⊎ (x ≤ h - k)
      side x = grind (arith, le)

      all : (x : ℕ) → Tied floors x h → Contains new x
      all x (a, b) = elim (side x) [
        | inl up ↦ g.has x (up, b)
        | inr low ↦ elim (gains_cases old new (Above k) g (h - k) there) [
          | inl o ↦ gains_keeps old new (Above k) g x (down x (h - k) o (let e = f.same h (h - k) lt above (omega arith) in (omega (arith, e, a), low)))
          | inr (p, q) ↦ absurd (omega (arith, p, le))
        ]
      ]

  pub above_end : (old new : List ℕ) (k : ℕ) → Gains old new (Above k) → k + slice_index floors h ≡ h + 1 → Gains old new (λ x. Tied floors x h)
  above_end old new k g e = gains_to old new (Above k) (λ x. Tied floors x h) (λ x (a, b). (omega (arith, a, e), b)) (λ x (a, b). g.has x (omega (arith, a, e), b)) g

-- what is tied to one of the first n numbers of a row
abbrev pub TiedTo : List ℕ → List ℕ → ℕ → ℕ → Type 0
TiedTo floors row n x = (i : ℕ) × (i < n) × Tied floors x (slice_index row i)

pub tied_more : (floors row : List ℕ) (n x : ℕ) → (TiedTo floors row n x ⊎ Tied floors x (slice_index row n)) ↔ TiedTo floors row (n + 1) x
tied_more floors row n x = (
  λ p. elim p [ inl (i, lt, t) ↦ (i, omega arith, t) | inr t ↦ (n, omega arith, t) ],
  λ (i, lt, t). elim (same_or_below i n lt) [ inl b ↦ inl (i, b, t) | inr e ↦ inr (subst (λ i. Tied floors x (slice_index row i)) e t) ],
)

pub tied_all : (floors row : List ℕ) (n x : ℕ) → n ≡ length row → TiedTo floors row n x ↔ ((h : ℕ) × Contains row h × Tied floors x h)
tied_all floors row n x e = (
  λ (i, lt, t). (slice_index row i, Contains-get_or row i 0 (omega arith), t),
  λ (h, (i, lt, is), t). (i, omega arith, subst (λ h. Tied floors x h) (sym (get_or_default row i 0 h lt ∙ is)) t),
)

pub row_known : (bound : ℕ) (rows : List (List ℕ)) (t : ℕ) → AreRows bound rows → All (λ h. h < bound) (row_at rows t)
row_known bound rows t known k d lt = known t (get_or (row_at rows t) k d) (Contains-get_or (row_at rows t) k d lt)

module _ (rows : List (List ℕ)) (floors keys : List ℕ) (from : ℕ) where
  pub into_none : (x : ℕ) → StepsInto rows floors keys from from x → ⊥
  into_none x (j, a, b, s) = omega (arith, a, b)

  pub into_more : (n : ℕ) (old new : List ℕ) (t : ℕ) → from ≤ n → t ≡ slice_index keys n → (x : ℕ) → (StepsInto rows floors keys from n x ⊎ Step rows floors x t) ↔ StepsInto rows floors keys from (n + 1) x
  into_more n old new t le e x = (
    λ p. elim p [ inl (j, a, b, s) ↦ (j, a, omega (arith, b), s) | inr s ↦ (n, le, omega arith, subst (Step rows floors x) e s) ],
    λ (j, a, b, s). elim (same_or_below j n b) [ inl low ↦ inl (j, a, low, s) | inr is ↦ inr (subst (Step rows floors x) (sym (e ∙ ap (slice_index keys) (sym is))) s) ],
  )
