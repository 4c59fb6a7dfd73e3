-- Items joined with parts: what they are, and their order, which is total and tells them apart.
use Rattle.std.proofs.Common.{◌≡◌, ℕ, ◌<◌, ◌≤◌, ◌-◌, ◌⊎◌, inl, inr, ◌↔◌, List, length, take, drop, get_or, slice_get, Some, Contains, Bool, true, false, cond, true≢false, ◌==◌, ◌&&◌, refl, sym, ◌∙◌, ap, subst, arith}
use Rattle.std.specs.declared.cmp.Ordering.TheVariants.{Less}
use Rattle.std.specs.Ordering.{nat_cmp, eq_by_cmp}
use Rattle.std.specs.Cmp.{IsTotalOrder, IsEquivalence, unsigned_ties, both_tied, eq_by_cmp_equiv}
use Rattle.std.specs.List.Sorted.{IsPartitionedBy, IsStrictlySortedBy}
use Rattle.std.proofs.lemmas.Cmp.{then_total, on_total, nat_cmp_total}
use Rattle.std.proofs.lemmas.Bool.{cases_lt, false_from_ne_true, and_parts, eqb-true, eq-eqb, ltb-true, lt-ltb}
use Rattle.std.proofs.lemmas.Map.Keys.{Less-from_sorted}
use Rattle.std.proofs.lemmas.Option.{slice_get-get_or}
use Rattle.finite_sets.proofs.Lists.{got_item, got_at}
use Rattle.finite_sets.proofs.Clauses.{then_at_most, less_differs}
use Rattle.grammar_core.proofs.Placed.{part_from, part_to}
use Rattle.earley_sets.proofs.Membership.{found_at}
use Rattle.forest_parts.proofs.InOrder.{then_rest}
use Rattle.recognizer_model.specs.declared.Item.{Item}
use Rattle.recognizer_model.specs.Items.{after}
use Rattle.earley_sets.specs.Recognizer.{Recognizer, set_at}
use Rattle.forest_parts.specs.declared.parts.Part.{Part}
use Rattle.first_walk.specs.declared.joined.Joined.{Joined}
use Rattle.first_walk.specs.Joined.{joined_cmp, item_of_joined, before_item, IsJoinedTo}

abbrev pub no_joined : Joined
no_joined = record { rule = 0; dot = 0; origin = 0; part = 0 }

pub joined_total : IsTotalOrder joined_cmp
joined_total =
    then_total (on_total (λ (j : Joined). j.origin) nat_cmp_total)
    (then_total (on_total (λ (j : Joined). j.rule) nat_cmp_total)
    (then_total (on_total (λ (j : Joined). j.dot) nat_cmp_total) (on_total (λ (j : Joined). j.part) nat_cmp_total)))

abbrev pub same_joined : Joined → Joined → Bool
same_joined x y = (x.origin == y.origin) && ((x.rule == y.rule) && ((x.dot == y.dot) && (x.part == y.part)))

pub joined_ties : (x y : Joined) → same_joined x y ≡ eq_by_cmp joined_cmp x y
joined_ties x y =
    both_tied _ _ (nat_cmp x.origin y.origin) _ (unsigned_ties x.origin y.origin)
    (both_tied _ _ (nat_cmp x.rule y.rule) _ (unsigned_ties x.rule y.rule)
    (both_tied _ _ (nat_cmp x.dot y.dot) (nat_cmp x.part y.part) (unsigned_ties x.dot y.dot) (unsigned_ties x.part y.part)))

pub joined_equiv : IsEquivalence same_joined
joined_equiv = subst IsEquivalence (λ i x y. sym (joined_ties x y) i) (eq_by_cmp_equiv joined_total)

pub joined_exact : (x y : Joined) → same_joined x y ≡ true → x ≡ y
joined_exact x y h =
    let (a, h1) = and_parts (x.origin == y.origin) ((x.rule == y.rule) && ((x.dot == y.dot) && (x.part == y.part))) h in
    let (b, h2) = and_parts (x.rule == y.rule) ((x.dot == y.dot) && (x.part == y.part)) h1 in
    let (c, d) = and_parts (x.dot == y.dot) (x.part == y.part) h2 in
    let ea = eqb-true x.origin y.origin a in
    let eb = eqb-true x.rule y.rule b in
    let ec = eqb-true x.dot y.dot c in
    let ed = eqb-true x.part y.part d in
    λ i. record { origin = ea i; rule = eb i; dot = ec i; part = ed i }

-- those of a part are the items that wait for its symbol where it begins
pub joined_are : (r : Recognizer) (number : ℕ) (p : Part) (waiting : List Item) → ((item : Item) → Contains waiting item ↔ (Contains (set_at r (p.end - p.length)) item × (after r.flat item ≡ Some p.symbol))) →
    (j : Joined) → ((item : Item) × Contains waiting item × ((j.part ≡ number) × (item_of_joined j ≡ item))) ↔ ((j.part ≡ number) × IsJoinedTo r p j)
joined_are r number p waiting are j = (
  λ (item, h, (is, e)). (
      let (a, b) = (are item).0 h in
      (is, (subst (λ z. Contains (set_at r (p.end - p.length)) z) (sym e) a, subst (λ z. after r.flat z ≡ Some p.symbol) (sym e) b))
      ),
  λ (is, (a, b)). (item_of_joined j, (are (item_of_joined j)).1 (a, b), (is, refl)),
)

-- WHAT STANDS BEFORE AN ITEM

abbrev IsBelow : (origin rule dot : ℕ) → Item → Type 0
IsBelow origin rule dot item = (origin < item.origin) ⊎ ((origin ≡ item.origin) × ((rule < item.rule) ⊎ ((rule ≡ item.rule) × (dot < item.dot))))

cond_parts : (b x y : Bool) → cond b x y ≡ true → ((b ≡ true) × (x ≡ true)) ⊎ ((b ≡ false) × (y ≡ true))
cond_parts true x y h = inl (refl, h)
cond_parts false x y h = inr (refl, h)

cond_yes : (b x y : Bool) → b ≡ true → x ≡ true → cond b x y ≡ true
cond_yes true x y e h = h
cond_yes false x y e h = absurd (true≢false (sym e))

cond_no : (b x y : Bool) → b ≡ false → y ≡ true → cond b x y ≡ true
cond_no true x y e h = absurd (true≢false e)
cond_no false x y e h = h

below_of : (item : Item) (j : Joined) → before_item item j ≡ true → IsBelow j.origin j.rule j.dot item
below_of item j h = elim (cond_parts (j.origin == item.origin) _ _ h) [
  | inl (e, h1) ↦ inr (eqb-true j.origin item.origin e, elim (cond_parts (j.rule == item.rule) _ _ h1) [ inl (e1, h2) ↦ inr (eqb-true j.rule item.rule e1, ltb-true j.dot item.dot h2) | inr (n, h2) ↦ inl (ltb-true j.rule item.rule h2) ])
  | inr (n, h1) ↦ inl (ltb-true j.origin item.origin h1)
]

before_of : (item : Item) (j : Joined) → IsBelow j.origin j.rule j.dot item → before_item item j ≡ true
before_of item j h = elim h [
  | inl lt ↦ cond_no (j.origin == item.origin) _ _ (less_differs j.origin item.origin lt) (lt-ltb j.origin item.origin lt)
  | inr (e, h1) ↦ cond_yes (j.origin == item.origin) _ _ (eq-eqb j.origin item.origin e) (elim h1 [
    | inl lt ↦ cond_no (j.rule == item.rule) _ _ (less_differs j.rule item.rule lt) (lt-ltb j.rule item.rule lt)
    | inr (e1, lt) ↦ cond_yes (j.rule == item.rule) _ _ (eq-eqb j.rule item.rule e1) (lt-ltb j.dot item.dot lt)
  ])
]

-- the first of two joined in order is no later than the second
less_parts : (a b : Joined) → joined_cmp a b ≡ Less → (a.origin < b.origin) ⊎ ((a.origin ≡ b.origin) × ((a.rule < b.rule) ⊎ ((a.rule ≡ b.rule) × (a.dot ≤ b.dot))))
less_parts a b h = elim (cases_lt a.origin b.origin) [
  | inl lt ↦ inl lt
  | inr ge ↦
      let le = then_at_most a.origin b.origin _ h in
      let e : a.origin ≡ b.origin = omega arith in
      let h1 = then_rest a.origin b.origin _ h e in
      inr (
        e,
        elim (cases_lt a.rule b.rule) [
          | inl lt ↦ inl lt
          | inr ge1 ↦
              let le1 = then_at_most a.rule b.rule _ h1 in
              let e1 : a.rule ≡ b.rule = omega arith in
              inr (e1, then_at_most a.dot b.dot _ (then_rest a.rule b.rule _ h1 e1))
        ],
      )
]

module _ (joined : List Joined) (sorted : IsStrictlySortedBy joined_cmp joined) (item : Item) where
  earlier : (i k : ℕ) (p j : Joined) → i < k → slice_get joined i ≡ Some p → slice_get joined k ≡ Some j → joined_cmp p j ≡ Less
  earlier i k p j lt at at' =
      let (below, e) = got_at joined i p no_joined (sym at) in
      let (below', e') = got_at joined k j no_joined (sym at') in
      let less = Less-from_sorted joined_cmp joined i k no_joined sorted lt below' in
      subst (λ z. joined_cmp z j ≡ Less) e (subst (λ z. joined_cmp (get_or joined i no_joined) z ≡ Less) e' less)

  below_both : (p j : Joined) → joined_cmp p j ≡ Less → IsBelow j.origin j.rule j.dot item → IsBelow p.origin p.rule p.dot item
  below_both p j less below = elim (less_parts p j less) [
    | inl lt ↦ elim below [ inl l ↦ inl (omega arith) | inr (e, r) ↦ inl (omega arith) ]
    | inr (e, rest) ↦ elim below [
      | inl l ↦ inl (omega arith)
      | inr (e', r) ↦ inr (
        omega arith,
        elim rest [
          | inl lt ↦ elim r [ inl l ↦ inl (omega arith) | inr (e1, z) ↦ inl (omega arith) ]
          | inr (e1, le) ↦ elim r [ inl l ↦ inl (omega arith) | inr (e2, z) ↦ inr (omega arith, omega arith) ]
        ],
      )
    ]
  ]

  pub before_parted : IsPartitionedBy (before_item item) joined
  before_parted i k d le lt h = elim (cases_lt i k) [
    | inl before ↦ before_of item (get_or joined i d) (below_both (get_or joined i d) (get_or joined k d) (Less-from_sorted joined_cmp joined i k d sorted before lt) (below_of item (get_or joined k d) h))
    | inr ge ↦ let e : k ≡ i = omega arith in subst (λ z. before_item item (get_or joined z d) ≡ true) e h
  ]

  -- where one stands before, so do all before it; where one does not, none behind it does
  pub all_before : (k : ℕ) → k < length joined → before_item item (get_or joined k no_joined) ≡ true → (i : ℕ) (j : Joined) → i ≤ k → slice_get joined i ≡ Some j → before_item item j ≡ true
  all_before k lt h i j le at =
      let (below, e) = got_at joined i j no_joined (sym at) in
      subst (λ z. before_item item z ≡ true) e (before_parted i k no_joined le lt h)

  pub none_behind : (k : ℕ) → before_item item (get_or joined k no_joined) ≡ false → (i : ℕ) (j : Joined) → k ≤ i → slice_get joined i ≡ Some j → before_item item j ≡ false
  none_behind k h i j le at =
      let (below, e) = got_at joined i j no_joined (sym at) in
      false_from_ne_true (before_item item j) (λ t. true≢false (sym (before_parted k i no_joined le below (subst (λ z. before_item item z ≡ true) (sym e) t)) ∙ h))

  module _ (first past : ℕ) (order : first ≤ past) (bound : past ≤ length joined) (behind : (k : ℕ) (j : Joined) → first ≤ k → slice_get joined k ≡ Some j → before_item item j ≡ false)
      (before : (k : ℕ) (j : Joined) → k < first → slice_get joined k ≡ Some j → before_item item j ≡ true)
      (same : (k : ℕ) (j : Joined) → first ≤ k → k < past → slice_get joined k ≡ Some j → item_of_joined j ≡ item) (other : (j : Joined) → slice_get joined past ≡ Some j → ¬ (item_of_joined j ≡ item)) where
    from_first : (k : ℕ) (j : Joined) → slice_get joined k ≡ Some j → item_of_joined j ≡ item → first ≤ k
    from_first k j at e = elim (cases_lt k first) [
      | inl lt ↦
          let r : j.origin ≡ item.origin = ap (λ (z : Item). z.origin) e in
          let d : j.rule ≡ item.rule = ap (λ (z : Item). z.rule) e in
          let o : j.dot ≡ item.dot = ap (λ (z : Item). z.dot) e in
          elim (below_of item j (before k j lt at)) [ inl l ↦ absurd (omega arith) | inr (q, h) ↦ elim h [ inl l ↦ absurd (omega arith) | inr (q1, l) ↦ absurd (omega arith) ] ]
      | inr ge ↦ ge
    ]

    before_past : (k : ℕ) (j : Joined) → slice_get joined k ≡ Some j → item_of_joined j ≡ item → k < past
    before_past k j at e = elim (cases_lt k past) [
      | inl lt ↦ lt
      | inr ge ↦
          let (lt, s) = got_at joined k j no_joined (sym at) in
          let p : Joined = get_or joined past no_joined in
          let here = slice_get-get_or joined past no_joined (omega arith) in
          elim (cases_lt past k) [
            | inl after ↦ absurd (go p here (earlier past k p j after here at))
            | inr le ↦ let q : k ≡ past = omega arith in absurd (other j (subst (λ z. slice_get joined z ≡ Some j) q at) e)
          ]
    ]
      where
        r : j.origin ≡ item.origin
        r = ap (λ (z : Item). z.origin) e

        d : j.rule ≡ item.rule
        d = ap (λ (z : Item). z.rule) e

        o : j.dot ≡ item.dot
        o = ap (λ (z : Item). z.dot) e

        go : (p : Joined) → slice_get joined past ≡ Some p → joined_cmp p j ≡ Less → ⊥
        go p here less =
            let not_below : IsBelow p.origin p.rule p.dot item → ⊥ = λ b. true≢false (sym (before_of item p b) ∙ behind past p order here) in
            elim (less_parts p j less) [
              | inl lt ↦ not_below (inl (omega (arith, r)))
              | inr (e1, h) ↦ elim h [
                | inl lt ↦ not_below (inr (e1 ∙ r, inl (omega (arith, d))))
                | inr (e2, le) ↦ elim (cases_lt p.dot item.dot) [
                  | inl lt ↦ not_below (inr (e1 ∙ r, inr (e2 ∙ d, lt)))
                  | inr ge ↦ let q : p.dot ≡ item.dot = omega (arith, o) in other p here (λ i. record { rule = (e2 ∙ d) i; dot = q i; origin = (e1 ∙ r) i })
                ]
              ]
            ]

    pub item_between : (j : Joined) → Contains (take (past - first) (drop first joined)) j ↔ (Contains joined j × (item_of_joined j ≡ item))
    item_between j = (
      λ h. (let (k, from, to, at) = part_from joined first past order bound j h in (got_item joined k j (sym at), same k j from to at)),
      λ (h, e). (let (k, at) = found_at joined j h in part_to joined first past order bound k j (from_first k j at e) (before_past k j at e) at),
    )
