use Rattle.std.proofs.Common.{◌≡◌, ◌≢◌, ℕ, ◌+◌, ◌<◌, ◌≤◌, ◌++◌, append_assoc, take, ◌↔◌, ◌⊎◌, inl, inr, List, [], ◌∷◌, map, slice_get, Some, None, Contains, refl, sym, ◌∙◌, ap, subst, arith}
use Rattle.std.proofs.lemmas.List.{take_more}
use Rattle.std.proofs.lemmas.List.Elements.{Contains-append_left, Contains-append_right, Contains-push, Contains-push_cases, Contains-append_cases}
use Rattle.finite_sets.proofs.Lists.{Contains-map, get_index, get_end, none_at_end}
use Rattle.recognizer_model.specs.declared.Item.{Item}
use Rattle.recognizer_model.specs.Flat.{FlatGrammar, lhs_of, rhs_of, IsNullable}
use Rattle.recognizer_model.specs.Items.{after, advanced}
use Rattle.recognizer_model.specs.Counts.{IsListOf}
use Rattle.item_rows.specs.Rows.{row_at}
use Rattle.earley_sets.specs.Kept.{IsItem}
use Rattle.recognizer_model.specs.declared.Pair.{Pair}
use Rattle.leo_items.specs.ByRows.{IsNotLeoIn, LeadsIn, pair_of}
use Rattle.leo_items.proofs.Chains.{has_leo, leads_one}
use Rattle.begun_lists.specs.Closing.{IsAdvancedOver, IsSkipped, IsDone, Follows, Predicts, Skips, Completes, Leaps, GoesOn}
use Rattle.earley_sets.proofs.Membership.{Contains-map_from}

-- one more item with its dot advanced
pub advanced_more : (row : List Item) (k : ℕ) (x : Item) → slice_get row k ≡ Some x → (first old new : List Item) (y : Item) → old ≡ first ++ map advanced (take k row) → new ≡ old ++ y ∷ [] → y ≡ advanced x →
    new ≡ first ++ map advanced (take (k + 1) row)
advanced_more row k x is first old new y before more same =
    let (lt, at) = get_index row k x x is in
    let next : take (k + 1) row ≡ take k row ++ x ∷ [] = take_more row k x lt ∙ ap (λ z. take k row ++ z ∷ []) at in
    more ∙ (ap (λ l. l ++ y ∷ []) before ∙ (ap (λ z. (first ++ map advanced (take k row)) ++ z ∷ []) same
    ∙ (append_assoc first (map advanced (take k row)) (advanced x ∷ []) ∙ ap (λ l. first ++ l) (sym (ap (map advanced) next ∙ map_append (take k row))))))
  where
    map_append : (xs : List Item) → map advanced (xs ++ x ∷ []) ≡ map advanced xs ++ advanced x ∷ []
    map_append [] = refl
    map_append (z ∷ xs) = ap (λ l. advanced z ∷ l) (map_append xs)

-- the items that wait for a symbol, with their dots advanced
module _ (g : FlatGrammar) (items part : List Item) (x : ℕ) (lists : IsListOf (λ item. Contains items item × (after g item ≡ Some x)) part) (old new : List Item) (is : new ≡ old ++ map advanced part) where
  pub has_advanced : (other : Item) → Contains new other ↔ (Contains old other ⊎ IsAdvancedOver g items x other)
  has_advanced other = subst (λ l. Contains l other ↔ (Contains old other ⊎ IsAdvancedOver g items x other)) (sym is) (there, back)
    where
      there : Contains (old ++ map advanced part) other → Contains old other ⊎ IsAdvancedOver g items x other
      there h = elim (Contains-append_cases old (map advanced part) other h) [
        | inl o ↦ inl o
        | inr n ↦ let (w, i, same) = Contains-map_from advanced part other n in let (k, e) = (lists.exact w).0 i in inr (w, k, e, same)
      ]

      back : Contains old other ⊎ IsAdvancedOver g items x other → Contains (old ++ map advanced part) other
      back (inl o) = Contains-append_left old (map advanced part) other o
      back (inr (w, k, e, same)) = Contains-append_right old (map advanced part) other (subst (Contains (map advanced part)) (sym same) (Contains-map advanced part w ((lists.exact w).1 (k, e))))

-- what a completion adds: the items that it advances where the pair is none, and else its topmost item
module _ (g : FlatGrammar) (rows : List (List Item)) (i x : ℕ) (old new : List Item) where
  pub done_none : IsNotLeoIn g rows i x → ((other : Item) → Contains new other ↔ (Contains old other ⊎ IsAdvancedOver g (row_at rows i) x other)) →
      (other : Item) → Contains new other ↔ (Contains old other ⊎ IsDone g rows i x other)
  done_none none h other = (
    λ n. elim ((h other).0 n) [ inl o ↦ inl o | inr a ↦ inr (inl (none, a)) ],
    λ n. (h other).1 (elim n [ inl o ↦ inl o | inr d ↦ inr (over d) ]),
  )
    where
      over : IsDone g rows i x other → IsAdvancedOver g (row_at rows i) x other
      over (inl (n, a)) = a
      over (inr leads) = let (item, leo) = has_leo g rows leads in absurd (none item leo)

  pub done_leo : (top : Item) → LeadsIn g rows i x top → new ≡ old ++ top ∷ [] → (other : Item) → Contains new other ↔ (Contains old other ⊎ IsDone g rows i x other)
  done_leo top leads e other = subst (λ l. Contains l other ↔ (Contains old other ⊎ IsDone g rows i x other)) (sym e) (
    λ n. elim (Contains-push_cases old top other n) [ inl o ↦ inl o | inr same ↦ inr (inr (subst (LeadsIn g rows i x) same leads)) ],
    λ n. elim n [ inl o ↦ Contains-append_left old (top ∷ []) other o | inr d ↦ subst (Contains (old ++ top ∷ [])) (one d) (Contains-push old top) ],
  )
    where
      one : IsDone g rows i x other → top ≡ other
      one (inl (none, a)) = let (item, leo) = has_leo g rows leads in absurd (none item leo)
      one (inr more) = leads_one g rows leads more

-- an advanced item has its dot after the start
pub leads_later : {g : FlatGrammar} {rows : List (List Item)} {i x : ℕ} {t : Item} → LeadsIn g rows i x t → t.dot ≡ 0 → ⊥
leads_later (LeadsIn.Last leo none) e = omega (arith, e)
leads_later (LeadsIn.On leo more) e = leads_later more e

module _ (g : FlatGrammar) (rows : List (List Item)) (earleme : ℕ) (item : Item) where
  module _ (x : ℕ) (e : after g item ≡ Some x) where
    skipped_on : (other : Item) → IsSkipped g item x other → GoesOn g rows earleme item other
    skipped_on other (n, same) = (subst (Follows g rows earleme item) (sym same) (Skips e n), λ start. (let d = ap (λ (t : Item). t.dot) same in omega (arith, d, start)))

    on_skipped : (other : Item) → Follows g rows earleme item other → other.dot ≢ 0 → IsSkipped g item x other
    on_skipped other (Predicts {x = y} {r = r} e' rule l) behind = absurd (behind refl)
    on_skipped other (Skips {x = y} e' n) behind = let s : y ≡ x = cc in (subst (IsNullable g) s n, refl)
    on_skipped other (Completes whole lt none w e') behind = let n = none_at_end (rhs_of g item.rule) item.dot whole in absurd (cc)
    on_skipped other (Leaps whole lt leads) behind = let n = none_at_end (rhs_of g item.rule) item.dot whole in absurd (cc)

    pub goes_skipped : (old new : List Item) → ((other : Item) → Contains new other ↔ (Contains old other ⊎ IsSkipped g item x other)) →
        (other : Item) → Contains new other ↔ (Contains old other ⊎ GoesOn g rows earleme item other)
    goes_skipped old new h other = (
      λ n. elim ((h other).0 n) [ inl o ↦ inl o | inr f ↦ inr (skipped_on other f) ],
      λ n. (h other).1 (elim n [ inl o ↦ inl o | inr (f, behind) ↦ inr (on_skipped other f behind) ]),
    )

  module _ (e : after g item ≡ None) where
    done_from : (other : Item) → Follows g rows earleme item other → (item.origin < earleme) × IsDone g rows item.origin (lhs_of g item.rule) other
    done_from other (Predicts {x = y} e' rule l) = absurd (cc)
    done_from other (Skips {x = y} e' n) = absurd (cc)
    done_from other (Completes {waiting = w} whole lt none i e') = (lt, inl (none, (w, i, e', refl)))
    done_from other (Leaps whole lt leads) = (lt, inr leads)

    pub goes_done : (old new : List Item) → IsItem g item → item.origin < earleme → (pair : Pair) → pair ≡ pair_of g item →
        ((other : Item) → Contains new other ↔ (Contains old other ⊎ IsDone g rows pair.set pair.symbol other)) →
        (other : Item) → Contains new other ↔ (Contains old other ⊎ GoesOn g rows earleme item other)
    goes_done old new is lt pair same h other = (
      λ n. elim ((h other).0 n) [ inl o ↦ inl o | inr d ↦ inr (follows (subst (λ (p : Pair). IsDone g rows p.set p.symbol other) same d)) ],
      λ n. (h other).1 (elim n [ inl o ↦ inl o | inr (f, behind) ↦ inr (subst (λ (p : Pair). IsDone g rows p.set p.symbol other) (sym same) (done_from other f).1) ]),
    )
      where
        follows : IsDone g rows item.origin (lhs_of g item.rule) other → GoesOn g rows earleme item other
        follows (inl (none, (w, i, e', s))) = (
          subst (Follows g rows earleme item) (sym s) (Completes (get_end (rhs_of g item.rule) item.dot is.within e) lt none i e'),
          λ start. (let d = ap (λ (t : Item). t.dot) s in omega (arith, d, start)),
        )
        follows (inr leads) = (Leaps (get_end (rhs_of g item.rule) item.dot is.within e) lt leads, λ start. leads_later leads start)

    pub goes_nowhere : (old : List Item) → earleme ≤ item.origin → (other : Item) → Contains old other ↔ (Contains old other ⊎ GoesOn g rows earleme item other)
    goes_nowhere old le other = (λ o. inl o, λ h. elim h [ inl o ↦ o | inr (f, behind) ↦ let (lt, c) = done_from other f in absurd (omega arith) ])
