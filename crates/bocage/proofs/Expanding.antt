-- The hidden items that are given for a place are expanded ones.
use Rattle.std.proofs.Common.{◌≡◌, ◌≢◌, ◌⊎◌, inl, inr, ◌↔◌, ℕ, zero, suc, ◌+◌, ◌<◌, ◌≤◌, List, [], ◌∷◌, Some, length, map, take, get_or, Contains, slice_get, refl, sym, ◌∙◌, ap, subst, arith}
use Rattle.std.specs.Prelude.{sum}
use Rattle.std.proofs.lemmas.Bool.{cases_lt}
use Rattle.std.proofs.lemmas.List.Sums.{sum_by_push}
use Rattle.std.proofs.lemmas.List.{map-append, take_more}
use Rattle.std.proofs.lemmas.List.Elements.{Contains-get_or}
use Rattle.finite_sets.proofs.Lists.{got_item}
use Rattle.grammar_model.specs.declared.Ranking.{Ranking}
use Rattle.grammar_model.specs.Grammar.{Grammar}
use Rattle.recognizer_model.specs.declared.Item.{Item}
use Rattle.recognizer_model.specs.declared.NodeKey.{NodeKey}
use Rattle.recognizer_model.specs.Counts.{IsCountOf}
use Rattle.recognizer_model.specs.Leo.{InReduced}
use Rattle.recognizer_model.specs.Chosen.{allowed_by}
use Rattle.recognizer_model.specs.Nodes.{Placed}
use Rattle.recognizer_model.proofs.Over.{hidden_whole}
use Rattle.earley_sets.specs.Recognizer.{Recognizer, IsRecognizer, earleme_of, set_at, edges_of, top_of}
use Rattle.earley_sets.proofs.Membership.{found_at}
use Rattle.forest_parts.specs.Hidden.{IsHiddenFrom, RisesWithin}
use Rattle.forest_parts.proofs.Sets.{at_top, goes}
use Rattle.bocage.specs.declared.rows.AlternativeRow.{AlternativeRow}
use Rattle.bocage.specs.declared.walk.Found.{Found}
use Rattle.bocage.specs.Walk.{IsRead, IsUsedIn, node_of_item, top_key}
use Rattle.forest_parts.specs.Chains.{EndsAt}
use Rattle.bocage.specs.Ends.{IsGoing}
use Rattle.bocage.specs.Expanded.{IsExpandedIn}
use Rattle.bocage.proofs.Splits.{used_met, used_within}
use Rattle.bocage.proofs.Asking.{IsAsked, asked, least_asked}
use Rattle.forest_parts.proofs.Counting.{at_place, none_counted, rises_none, at_least_of, count_of, at_least_both, count_both, at_least_placed, count_placed}

module _ (w : Grammar) (ranking : Ranking) (r : Recognizer) (read : IsRead w r) (end first : ℕ) (f : Found) (table : List (List AlternativeRow)) (going : IsGoing w ranking r end first f table) (nodes : List ℕ)
    (listed : (n : ℕ) → Contains nodes n ↔ ((n < first) × EndsAt f.keys.keys end n)) where
  -- where a used node ends before the last place, one of the listed nodes begins no later
  pub reached : end ≢ earleme_of r → (key : NodeKey) → IsUsedIn w ranking r key → key.end ≡ end → (n : ℕ) × (k : NodeKey) × Contains nodes n × (slice_get f.keys.keys n ≡ Some k) × (k.origin ≤ key.origin)
  reached inner key used same =
      let (some, met) = (used_met w ranking r read key).0 used in
      elim (least_asked (allowed_by w ranking r.flat (edges_of r)) r read.is met some) [ inl e ↦ absurd (inner (sym same ∙ e)) | inr a ↦ go (subst (λ z. IsAsked (allowed_by w ranking r.flat (edges_of r)) r key.origin z) same a) ]
    where
      go : IsAsked (allowed_by w ranking r.flat (edges_of r)) r key.origin end → (n : ℕ) × (k : NodeKey) × Contains nodes n × (slice_get f.keys.keys n ≡ Some k) × (k.origin ≤ key.origin)
      go a =
          let b = a.behind in
          let item : Item = record { rule = a.rule; dot = a.dot; origin = a.origin } in
          let held = asked w ranking r read (suc end) f.keys.keys f.wholes.items table (λ n k at le. going.visited n k at (omega arith)) (λ k lt e. subst (λ z. Contains f.keys.keys z) (sym e) (going.top lt)) a.met (omega arith) a.predecessor a.part a.cause a.some in
          let (n, at) = found_at f.keys.keys (node_of_item item end) held in
          let lt : n < first = elim (cases_lt n first) [ inl lt ↦ lt | inr ge ↦ absurd (inner (going.begun n (node_of_item item end) at ge refl)) ] in
          (n, node_of_item item end, (listed n).1 (lt, (node_of_item item end, at, refl)), at, a.low)

  -- a listed node is used, and ends here
  pub listed_used : (n : ℕ) (key : NodeKey) → Contains nodes n → slice_get f.keys.keys n ≡ Some key → IsUsedIn w ranking r key × (key.end ≡ end)
  listed_used n key h at =
      let (lt, (other, at', same)) = (listed n).0 h in
      let one : Some other ≡ Some key = sym at' ∙ at in
      let e : other ≡ key = cc in
      (going.used key (got_item f.keys.keys n key (sym at)), sym (ap (λ (z : NodeKey). z.end) e) ∙ same)

  -- the least origin is that of one of the listed nodes
  pub least_met : (lowest least : ℕ) → end ≢ earleme_of r → lowest ≡ end → 0 < length nodes → least ≤ lowest →
      (least ≡ lowest) ⊎ ((n : ℕ) × (key : NodeKey) × Contains nodes n × (slice_get f.keys.keys n ≡ Some key) × (key.origin ≡ least)) →
      (key : NodeKey) × IsUsedIn w ranking r key × (key.end ≡ end) × (key.origin ≤ least)
  least_met lowest least inner is some le (inr (n, key, h, at, e)) = let (used, same) = listed_used n key h at in (key, used, same, omega arith)
  least_met lowest least inner is some le (inl e) =
      let h = Contains-get_or nodes 0 0 some in
      let (lt, (key, at, ends)) = (listed (get_or nodes 0 0)).0 h in
      let (used, same) = listed_used (get_or nodes 0 0) key h at in
      let low = (used_within w ranking r read key used).forward in
      (key, used, same, omega arith)

  -- at any place, or at the last one
  same_or_not : (end ≡ earleme_of r) ⊎ (end ≢ earleme_of r)
  same_or_not = elim (cases_lt end (earleme_of r)) [
    | inl lt ↦ inr (λ e. let q : end ≡ earleme_of r = e in absurd (omega arith))
    | inr ge ↦ elim (cases_lt (earleme_of r) end) [ inl gt ↦ inr (λ e. let q : end ≡ earleme_of r = e in absurd (omega arith)) | inr le ↦ inl (omega arith) ]
  ]

  -- what is given for the place is expanded there
  pub given_expanded : (lowest least : ℕ) → least ≤ lowest → (least ≡ lowest) ⊎ ((n : ℕ) × (key : NodeKey) × Contains nodes n × (slice_get f.keys.keys n ≡ Some key) × (key.origin ≡ least)) →
      (end ≢ earleme_of r → (lowest ≡ end) × (0 < length nodes)) → (item : Item) → IsHiddenFrom r end least item → IsExpandedIn w ranking r (at_place end item)
  given_expanded lowest least le met inner item (hidden, late) = (
    hidden,
    elim same_or_not [
      | inl e ↦
          let lt = (hidden_whole r.flat (edges_of r) (top_of r) (at_top r read.is) (goes r read.is) hidden).1 in
          (top_key r, going.used (top_key r) (going.top (omega arith)), sym e, omega arith)
      | inr n ↦
          let (is, some) = inner n in
          let (key, used, same, below) = least_met lowest least n is some le met in
          (key, used, same, omega arith)
    ],
  )

-- one place more
module _ (Q : Placed → Type 0) where
  abbrev at_end : (end : ℕ) → Placed → Type 0
  at_end end p = Q p × (p.place ≡ end)

  abbrev from_end : (end : ℕ) → Placed → Type 0
  from_end end p = Q p × (end ≤ p.place)

  pub within_more : (end k l m : ℕ) → RisesWithin (from_end (suc end)) k l → RisesWithin (λ item. Q (at_place end item)) l m → RisesWithin (from_end end) k m
  within_more end k l m (a, some, e) (b, more, e') = (
    a + b,
    at_least_both (from_end (suc end)) (at_end end) (from_end end) (λ p (h, le) (h', e). absurd (omega arith)) (λ p (h, le). (h, omega arith)) (λ p (h, e). (h, omega arith)) a b some
        (at_least_placed end (λ item. Q (at_place end item)) (at_end end) (λ item h. (h, refl)) b more),
    omega arith,
  )

  pub within_first : (end k l : ℕ) → RisesWithin (λ item. Q (at_place end item)) k l → RisesWithin (from_end end) k l
  within_first end k l h = within_more end k k l (rises_none (from_end (suc end)) k) h

  pub within_all : (end k l : ℕ) → RisesWithin (from_end end) k l → RisesWithin Q k l
  within_all end k l (n, some, e) = (n, at_least_of (from_end end) Q n (λ p h. h.0) some, e)

-- the kept items of the first places
module _ (r : Recognizer) (is : IsRecognizer r) where
  abbrev IsKeptBelow : ℕ → Placed → Type 0
  IsKeptBelow k p = (p.place < k) × InReduced r.flat (edges_of r) (top_of r) p.place p.item

  abbrev IsKeptAt : ℕ → Placed → Type 0
  IsKeptAt k p = (p.place ≡ k) × InReduced r.flat (edges_of r) (top_of r) p.place p.item

  kept_below : (k : ℕ) → k ≤ length r.sets → IsCountOf (IsKeptBelow k) (sum (map length (take k r.sets)))
  kept_below zero le = none_counted (IsKeptBelow 0) (λ p (lt, h). absurd (omega arith))
  kept_below (suc k) le =
      subst (λ n. IsCountOf (IsKeptBelow (suc k)) n) (sym longer)
      (count_both (IsKeptBelow k) (IsKeptAt k) (IsKeptBelow (suc k)) (λ p (lt, h) (e, h'). absurd (omega arith)) (λ p (lt, h). (omega arith, h)) (λ p (e, h). (omega arith, h)) (sum (map length (take k r.sets))) (length (set_at r k))
      (λ p (lt, h). elim (cases_lt p.place k) [ inl below ↦ inl (below, h) | inr ge ↦ inr (omega arith, h) ])
      (kept_below k (omega arith))
      (count_placed k (λ item. InReduced r.flat (edges_of r) (top_of r) k item) (IsKeptAt k) (λ item h. (refl, h)) (length (set_at r k)) (λ p (e, h). (e, subst (λ z. InReduced r.flat (edges_of r) (top_of r) z p.item) e h)) (set_at r k, is.exact k (omega arith), refl)))
    where
      longer : sum (map length (take (suc k) r.sets)) ≡ sum (map length (take k r.sets)) + length (set_at r k)
      longer =
          ap (λ l. sum (map length l)) (ap (λ n. take n r.sets) (let e : suc k ≡ k + 1 = omega arith in e) ∙ take_more r.sets k [] (omega arith))
          ∙ ap sum (map-append length (take k r.sets) (set_at r k ∷ []))
          ∙ sum_by_push (λ x. x) (map length (take k r.sets)) (length (set_at r k))

  pub kept_counted : IsCountOf {A = Placed} (λ p. (p.place ≤ earleme_of r) × InReduced r.flat (edges_of r) (top_of r) p.place p.item) (sum (map length r.sets))
  kept_counted =
      let s = is.some in
      count_of (IsKeptBelow (length r.sets)) (λ p. (p.place ≤ earleme_of r) × InReduced r.flat (edges_of r) (top_of r) p.place p.item) (sum (map length r.sets)) (λ p. ((λ (lt, h). (omega arith, h)), (λ (le, h). (omega arith, h))))
      (subst (λ l. IsCountOf (IsKeptBelow (length r.sets)) (sum (map length l))) (all r.sets) (kept_below (length r.sets) (omega arith)))
    where
      all : {X : Type 0} (xs : List X) → take (length xs) xs ≡ xs
      all [] = refl
      all (x ∷ xs) = ap (λ l. x ∷ l) (all xs)
