-- Joins: what they are, and their order, which is total and tells them apart.
use Rattle.std.proofs.Common.{◌≡◌, ℕ, ◌<◌, ◌≤◌, ◌-◌, ◌⊎◌, inl, inr, ◌↔◌, List, length, take, drop, get_or, slice_get, Some, Contains, Bool, true, false, cond, true≢false, ◌==◌, ◌&&◌, refl, sym, ◌∙◌, ap, subst, arith}
use Rattle.std.specs.declared.cmp.Ordering.TheVariants.{Less}
use Rattle.std.specs.Ordering.{nat_cmp, eq_by_cmp}
use Rattle.std.specs.Cmp.{IsTotalOrder, IsEquivalence, unsigned_ties, both_tied, eq_by_cmp_equiv}
use Rattle.std.specs.List.Sorted.{IsPartitionedBy, IsStrictlySortedBy}
use Rattle.std.proofs.lemmas.Cmp.{then_total, on_total, nat_cmp_total}
use Rattle.std.proofs.lemmas.Bool.{cases_lt, and_parts, eqb-true, eq-eqb, ltb-true, lt-ltb}
use Rattle.std.proofs.lemmas.Map.Keys.{Less-from_sorted}
use Rattle.std.proofs.lemmas.Option.{slice_get-get_or}
use Rattle.finite_sets.proofs.Lists.{got_item, got_at}
use Rattle.finite_sets.proofs.Clauses.{then_at_most, less_differs}
use Rattle.grammar_core.proofs.Placed.{part_from, part_to}
use Rattle.earley_sets.proofs.Membership.{found_at}
use Rattle.forest_parts.proofs.InOrder.{then_rest}
use Rattle.recognizer_model.specs.declared.Item.{Item}
use Rattle.recognizer_model.specs.Items.{after}
use Rattle.earley_sets.specs.Recognizer.{Recognizer, set_at}
use Rattle.forest_parts.specs.declared.groups.Group.{Group}
use Rattle.bocage.specs.declared.joins.Join.{Join}
use Rattle.bocage.specs.Joins.{join_cmp, predecessor_of_join, before_item, IsJoinOf}

abbrev pub no_join : Join
no_join = record { rule = 0; dot = 0; origin = 0; group = 0 }

pub join_total : IsTotalOrder join_cmp
join_total =
    then_total (on_total (λ (j : Join). j.rule) nat_cmp_total)
    (then_total (on_total (λ (j : Join). j.dot) nat_cmp_total)
    (then_total (on_total (λ (j : Join). j.origin) nat_cmp_total) (on_total (λ (j : Join). j.group) nat_cmp_total)))

abbrev pub same_join : Join → Join → Bool
same_join x y = (x.rule == y.rule) && ((x.dot == y.dot) && ((x.origin == y.origin) && (x.group == y.group)))

pub join_ties : (x y : Join) → same_join x y ≡ eq_by_cmp join_cmp x y
join_ties x y =
    both_tied _ _ (nat_cmp x.rule y.rule) _ (unsigned_ties x.rule y.rule)
    (both_tied _ _ (nat_cmp x.dot y.dot) _ (unsigned_ties x.dot y.dot)
    (both_tied _ _ (nat_cmp x.origin y.origin) (nat_cmp x.group y.group) (unsigned_ties x.origin y.origin) (unsigned_ties x.group y.group)))

pub join_equiv : IsEquivalence same_join
join_equiv = subst IsEquivalence (λ i x y. sym (join_ties x y) i) (eq_by_cmp_equiv join_total)

pub join_exact : (x y : Join) → same_join x y ≡ true → x ≡ y
join_exact x y h =
    let (a, h1) = and_parts (x.rule == y.rule) ((x.dot == y.dot) && ((x.origin == y.origin) && (x.group == y.group))) h in
    let (b, h2) = and_parts (x.dot == y.dot) ((x.origin == y.origin) && (x.group == y.group)) h1 in
    let (c, d) = and_parts (x.origin == y.origin) (x.group == y.group) h2 in
    let ea = eqb-true x.rule y.rule a in
    let eb = eqb-true x.dot y.dot b in
    let ec = eqb-true x.origin y.origin c in
    let ed = eqb-true x.group y.group d in
    λ i. record { rule = ea i; dot = eb i; origin = ec i; group = ed i }

-- the joins of a group are those of the items that wait for its symbol
pub joins_are : (r : Recognizer) (least number : ℕ) (g : Group) (waiting : List Item) → ((item : Item) → Contains waiting item ↔ (Contains (set_at r g.start) item × (after r.flat item ≡ Some g.symbol))) →
    (j : Join) → ((item : Item) × Contains waiting item × ((j.group ≡ number) × (predecessor_of_join j ≡ item) × (least ≤ item.origin))) ↔ ((j.group ≡ number) × IsJoinOf r least g j)
joins_are r least number g waiting are j = (
  λ (item, h, (is, e, le)). (
      let (a, b) = (are item).0 h in
      (is, (subst (λ z. Contains (set_at r g.start) z) (sym e) a, subst (λ z. after r.flat z ≡ Some g.symbol) (sym e) b, subst (λ (z : Item). least ≤ z.origin) (sym e) le))
      ),
  λ (is, (a, b, le)). (predecessor_of_join j, (are (predecessor_of_join j)).1 (a, b), (is, refl, le)),
)

-- WHAT STANDS BEFORE AN ITEM

abbrev IsBelow : (rule dot origin : ℕ) → Item → Type 0
IsBelow rule dot origin predecessor = (rule < predecessor.rule) ⊎ ((rule ≡ predecessor.rule) × ((dot < predecessor.dot) ⊎ ((dot ≡ predecessor.dot) × (origin < predecessor.origin))))

cond_parts : (b x y : Bool) → cond b x y ≡ true → ((b ≡ true) × (x ≡ true)) ⊎ ((b ≡ false) × (y ≡ true))
cond_parts true x y h = inl (refl, h)
cond_parts false x y h = inr (refl, h)

cond_yes : (b x y : Bool) → b ≡ true → x ≡ true → cond b x y ≡ true
cond_yes true x y e h = h
cond_yes false x y e h = absurd (true≢false (sym e))

cond_no : (b x y : Bool) → b ≡ false → y ≡ true → cond b x y ≡ true
cond_no true x y e h = absurd (true≢false e)
cond_no false x y e h = h

below_of : (predecessor : Item) (j : Join) → before_item predecessor j ≡ true → IsBelow j.rule j.dot j.origin predecessor
below_of predecessor j h = elim (cond_parts (j.rule == predecessor.rule) _ _ h) [
  | inl (e, h1) ↦ inr (eqb-true j.rule predecessor.rule e, elim (cond_parts (j.dot == predecessor.dot) _ _ h1) [ inl (e1, h2) ↦ inr (eqb-true j.dot predecessor.dot e1, ltb-true j.origin predecessor.origin h2) | inr (n, h2) ↦ inl (ltb-true j.dot predecessor.dot h2) ])
  | inr (n, h1) ↦ inl (ltb-true j.rule predecessor.rule h1)
]

before_of : (predecessor : Item) (j : Join) → IsBelow j.rule j.dot j.origin predecessor → before_item predecessor j ≡ true
before_of predecessor j h = elim h [
  | inl lt ↦ cond_no (j.rule == predecessor.rule) _ _ (less_differs j.rule predecessor.rule lt) (lt-ltb j.rule predecessor.rule lt)
  | inr (e, h1) ↦ cond_yes (j.rule == predecessor.rule) _ _ (eq-eqb j.rule predecessor.rule e) (elim h1 [
    | inl lt ↦ cond_no (j.dot == predecessor.dot) _ _ (less_differs j.dot predecessor.dot lt) (lt-ltb j.dot predecessor.dot lt)
    | inr (e1, lt) ↦ cond_yes (j.dot == predecessor.dot) _ _ (eq-eqb j.dot predecessor.dot e1) (lt-ltb j.origin predecessor.origin lt)
  ])
]

-- the first of two joins in order is no later than the second
less_parts : (a b : Join) → join_cmp a b ≡ Less → (a.rule < b.rule) ⊎ ((a.rule ≡ b.rule) × ((a.dot < b.dot) ⊎ ((a.dot ≡ b.dot) × (a.origin ≤ b.origin))))
less_parts a b h = elim (cases_lt a.rule b.rule) [
  | inl lt ↦ inl lt
  | inr ge ↦
      let le = then_at_most a.rule b.rule _ h in
      let e : a.rule ≡ b.rule = omega arith in
      let h1 = then_rest a.rule b.rule _ h e in
      inr (
        e,
        elim (cases_lt a.dot b.dot) [
          | inl lt ↦ inl lt
          | inr ge1 ↦
              let le1 = then_at_most a.dot b.dot _ h1 in
              let e1 : a.dot ≡ b.dot = omega arith in
              inr (e1, then_at_most a.origin b.origin _ (then_rest a.dot b.dot _ h1 e1))
        ],
      )
]

module _ (joins : List Join) (sorted : IsStrictlySortedBy join_cmp joins) (predecessor : Item) where
  earlier : (i k : ℕ) (p j : Join) → i < k → slice_get joins i ≡ Some p → slice_get joins k ≡ Some j → join_cmp p j ≡ Less
  earlier i k p j lt at at' =
      let (below, e) = got_at joins i p no_join (sym at) in
      let (below', e') = got_at joins k j no_join (sym at') in
      let less = Less-from_sorted join_cmp joins i k no_join sorted lt below' in
      subst (λ z. join_cmp z j ≡ Less) e (subst (λ z. join_cmp (get_or joins i no_join) z ≡ Less) e' less)

  below_both : (p j : Join) → join_cmp p j ≡ Less → IsBelow j.rule j.dot j.origin predecessor → IsBelow p.rule p.dot p.origin predecessor
  below_both p j less below = elim (less_parts p j less) [
    | inl lt ↦ elim below [ inl l ↦ inl (omega arith) | inr (e, r) ↦ inl (omega arith) ]
    | inr (e, rest) ↦ elim below [
      | inl l ↦ inl (omega arith)
      | inr (e', r) ↦ inr (
        omega arith,
        elim rest [
          | inl lt ↦ elim r [ inl l ↦ inl (omega arith) | inr (e1, z) ↦ inl (omega arith) ]
          | inr (e1, le) ↦ elim r [ inl l ↦ inl (omega arith) | inr (e2, z) ↦ inr (omega arith, omega arith) ]
        ],
      )
    ]
  ]

  pub before_parted : IsPartitionedBy (before_item predecessor) joins
  before_parted i k d le lt h = elim (cases_lt i k) [
    | inl before ↦ before_of predecessor (get_or joins i d) (below_both (get_or joins i d) (get_or joins k d) (Less-from_sorted join_cmp joins i k d sorted before lt) (below_of predecessor (get_or joins k d) h))
    | inr ge ↦ let e : k ≡ i = omega arith in subst (λ z. before_item predecessor (get_or joins z d) ≡ true) e h
  ]

  module _ (first past : ℕ) (order : first ≤ past) (bound : past ≤ length joins) (behind : (k : ℕ) (j : Join) → first ≤ k → slice_get joins k ≡ Some j → before_item predecessor j ≡ false)
      (before : (k : ℕ) (j : Join) → k < first → slice_get joins k ≡ Some j → before_item predecessor j ≡ true)
      (same : (k : ℕ) (j : Join) → first ≤ k → k < past → slice_get joins k ≡ Some j → predecessor_of_join j ≡ predecessor) (other : (j : Join) → slice_get joins past ≡ Some j → ¬ (predecessor_of_join j ≡ predecessor)) where
    from_first : (k : ℕ) (j : Join) → slice_get joins k ≡ Some j → predecessor_of_join j ≡ predecessor → first ≤ k
    from_first k j at e = elim (cases_lt k first) [
      | inl lt ↦
          let r : j.rule ≡ predecessor.rule = ap (λ (z : Item). z.rule) e in
          let d : j.dot ≡ predecessor.dot = ap (λ (z : Item). z.dot) e in
          let o : j.origin ≡ predecessor.origin = ap (λ (z : Item). z.origin) e in
          elim (below_of predecessor j (before k j lt at)) [ inl l ↦ absurd (omega arith) | inr (q, h) ↦ elim h [ inl l ↦ absurd (omega arith) | inr (q1, l) ↦ absurd (omega arith) ] ]
      | inr ge ↦ ge
    ]

    before_past : (k : ℕ) (j : Join) → slice_get joins k ≡ Some j → predecessor_of_join j ≡ predecessor → k < past
    before_past k j at e = elim (cases_lt k past) [
      | inl lt ↦ lt
      | inr ge ↦
          let (lt, s) = got_at joins k j no_join (sym at) in
          let p : Join = get_or joins past no_join in
          let here = slice_get-get_or joins past no_join (omega arith) in
          elim (cases_lt past k) [
            | inl after ↦ absurd (go p here (earlier past k p j after here at))
            | inr le ↦ let q : k ≡ past = omega arith in absurd (other j (subst (λ z. slice_get joins z ≡ Some j) q at) e)
          ]
    ]
      where
        r : j.rule ≡ predecessor.rule
        r = ap (λ (z : Item). z.rule) e

        d : j.dot ≡ predecessor.dot
        d = ap (λ (z : Item). z.dot) e

        o : j.origin ≡ predecessor.origin
        o = ap (λ (z : Item). z.origin) e

        go : (p : Join) → slice_get joins past ≡ Some p → join_cmp p j ≡ Less → ⊥
        go p here less =
            let not_below : IsBelow p.rule p.dot p.origin predecessor → ⊥ = λ b. true≢false (sym (before_of predecessor p b) ∙ behind past p order here) in
            elim (less_parts p j less) [
              | inl lt ↦ not_below (inl (omega (arith, r)))
              | inr (e1, h) ↦ elim h [
                | inl lt ↦ not_below (inr (e1 ∙ r, inl (omega (arith, d))))
                | inr (e2, le) ↦ elim (cases_lt p.origin predecessor.origin) [
                  | inl lt ↦ not_below (inr (e1 ∙ r, inr (e2 ∙ d, lt)))
                  | inr ge ↦ let q : p.origin ≡ predecessor.origin = omega (arith, o) in other p here (λ i. record { rule = (e1 ∙ r) i; dot = (e2 ∙ d) i; origin = q i })
                ]
              ]
            ]

    pub item_between : (j : Join) → Contains (take (past - first) (drop first joins)) j ↔ (Contains joins j × (predecessor_of_join j ≡ predecessor))
    item_between j = (
      λ h. (let (k, from, to, at) = part_from joins first past order bound j h in (got_item joins k j (sym at), same k j from to at)),
      λ (h, e). (let (k, at) = found_at joins j h in part_to joins first past order bound k j (from_first k j at e) (before_past k j at e) at),
    )
