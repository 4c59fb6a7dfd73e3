-- The rules of a symbol begin together.
use Rattle.std.proofs.Common.{◌≡◌, ℕ, ◌<◌, ◌≤◌, ◌↔◌, ◌⊎◌, inl, inr, List, [], Contains, Some, None, refl, sym, ◌∙◌, ap, subst, arith}
use Rattle.recognizer_model.specs.declared.Item.{Item}
use Rattle.recognizer_model.specs.Flat.{FlatGrammar, IsRule, lhs_of, IsNullable}
use Rattle.recognizer_model.specs.Items.{after, first_item, advanced}
use Rattle.item_rows.specs.Kept.{IsItem}
use Rattle.begun_lists.specs.Closing.{IsSkipped, Follows, Predicts, Skips, Completes, Leaps, Grows}
use Rattle.begun_lists.specs.Begun.{IsPredicted, IsFirst, BeginTogether}

-- the rules of a symbol, listed
module _ (g : FlatGrammar) (x from to : ℕ) (are : (r : ℕ) → ((from ≤ r) × (r < to)) ↔ (IsRule g r × (lhs_of g r ≡ x))) where
  pub rules_listed : (old new : List Item) → ((other : Item) → Contains new other ↔ (Contains old other ⊎ ((r : ℕ) × (from ≤ r) × (r < to) × (other ≡ first_item r 0)))) →
      (other : Item) → Contains new other ↔ (Contains old other ⊎ IsPredicted g x other)
  rules_listed old new listed other = (
    λ n. elim ((listed other).0 n) [ inl o ↦ inl o | inr (r, lo, hi, e) ↦ let (rule, l) = (are r).0 (lo, hi) in inr (r, rule, l, e) ],
    λ n. (listed other).1 (elim n [ inl o ↦ inl o | inr (r, rule, l, e) ↦ let (lo, hi) = (are r).1 (rule, l) in inr (r, lo, hi, e) ]),
  )

  -- where the first of them has begun, all have
  pub all_begun : (set : List Item) → BeginTogether g set → Contains set (first_item from 0) → (other : Item) → IsPredicted g x other → Contains set other
  all_begun set together c other (r, rule, l, e) =
      let (lo, hi) = (are r).1 (rule, l) in
      let (rule', l') = (are from).0 (omega arith, omega (arith, lo, hi)) in
      subst (Contains set) (sym e) (together from r rule' rule (l' ∙ sym l) c)

-- what the first items of some symbols' rules are
pub firsts_together : (g : FlatGrammar) (symbols : List ℕ) (firsts : List Item) → ((item : Item) → Contains firsts item ↔ IsFirst g symbols item) → BeginTogether g firsts
firsts_together g symbols firsts listed r s rule rule' same c =
    let (x, there, (q, ruled, l, e)) = (listed (first_item r 0)).0 c in
    let at : q ≡ r = sym (ap (λ (t : Item). t.rule) e) in
    (listed (first_item s 0)).1 (x, there, (s, rule', sym same ∙ (ap (lhs_of g) (sym at) ∙ l), refl))

pub first_is_item : (g : FlatGrammar) (symbols : List ℕ) (item : Item) → IsFirst g symbols item → IsItem g item × (item.origin ≡ 0)
first_is_item g symbols item (x, there, (r, rule, l, e)) = subst (λ (t : Item). IsItem g t × (t.origin ≡ 0)) (sym e) (record { is_rule = rule; within = omega arith }, refl)

module _ (g : FlatGrammar) (item : Item) where
  -- where one rule of a symbol follows, each does
  all_predicted : (r s : ℕ) (other : Item) → Follows g [] 0 item other → other ≡ first_item r 0 → IsRule g s → lhs_of g r ≡ lhs_of g s → Follows g [] 0 item (first_item s 0)
  all_predicted r s other (Predicts {x = x} {r = q} e rule l) is rule' same = let at : q ≡ r = ap (λ (t : Item). t.rule) is in Predicts e rule' (sym same ∙ (ap (lhs_of g) (sym at) ∙ l))
  all_predicted r s other (Skips e n) is rule' same = absurd (let d = ap (λ (t : Item). t.dot) is in omega (arith, d))
  all_predicted r s other (Completes whole lt none w e) is rule' same = absurd (omega (arith, lt))
  all_predicted r s other (Leaps whole lt leads) is rule' same = absurd (omega (arith, lt))

  module _ (keys next : List Item) (only : (other : Item) → Contains next other → Follows g [] 0 item other) (all : (other : Item) → Follows g [] 0 item other → Contains keys other ⊎ Contains next other) where
    pub still_together : (new : List Item) → Grows keys new next → BeginTogether g keys → BeginTogether g new
    still_together new grows together r s rule rule' same c = (grows.has (first_item s 0)).1 (elim ((grows.has (first_item r 0)).0 c) [
      | inl o ↦ inl (together r s rule rule' same o)
      | inr n ↦ all (first_item s 0) (all_predicted r s (first_item r 0) (only (first_item r 0) n) refl rule' same)
    ])

  -- what follows is predicted or skipped over
  module _ (x : ℕ) (e : after g item ≡ Some x) (keys mid new : List Item) (listed : (other : Item) → Contains new other ↔ (Contains mid other ⊎ IsSkipped g item x other)) where
    pub later_only : ((other : Item) → Contains mid other → IsPredicted g x other) → (other : Item) → Contains new other → Follows g [] 0 item other
    later_only only other n = elim ((listed other).0 n) [
      | inl m ↦ let (r, rule, l, same) = only other m in subst (Follows g [] 0 item) (sym same) (Predicts e rule l)
      | inr (null, same) ↦ subst (Follows g [] 0 item) (sym same) (Skips e null)
    ]

    pub later_all : ((other : Item) → IsPredicted g x other → Contains keys other ⊎ Contains mid other) → (other : Item) → Follows g [] 0 item other → Contains keys other ⊎ Contains new other
    later_all all other (Predicts {x = y} {r = r} e' rule l) =
        let s : y ≡ x = cc in
        elim (all (first_item r 0) (r, rule, l ∙ s, refl)) [ inl c ↦ inl c | inr m ↦ inr ((listed (first_item r 0)).1 (inl m)) ]
    later_all all other (Skips {x = y} e' n) = let s : y ≡ x = cc in inr ((listed (advanced item)).1 (inr (subst (IsNullable g) s n, refl)))
    later_all all other (Completes whole lt none w e') = absurd (omega (arith, lt))
    later_all all other (Leaps whole lt leads) = absurd (omega (arith, lt))

  -- an item with nothing after the dot leads nowhere here
  pub later_none : after g item ≡ None → item.origin ≡ 0 → (other : Item) → Follows g [] 0 item other → ⊥
  later_none e zero other (Predicts {x = y} e' rule l) = absurd (cc)
  later_none e zero other (Skips {x = y} e' n) = absurd (cc)
  later_none e zero other (Completes whole lt none w e') = omega (arith, lt)
  later_none e zero other (Leaps whole lt leads) = omega (arith, lt)

  pub later_origin : item.origin ≡ 0 → (other : Item) → Follows g [] 0 item other → other.origin ≡ 0
  later_origin zero other (Predicts e' rule l) = refl
  later_origin zero other (Skips e' n) = zero
  later_origin zero other (Completes whole lt none w e') = absurd (omega (arith, lt))
  later_origin zero other (Leaps whole lt leads) = absurd (omega (arith, lt))
