-- The list of all derivations exists, over a grammar of plain rules where no slot leads back to itself: each slot has
-- a height, which falls where a child may span the whole. The list is by spans, and within a span by heights.
use Rattle.std.proofs.Common.{◌≡◌, ◌≢◌, ℕ, zero, suc, ◌<◌, ◌≤◌, ◌+◌, ◌-◌, Bool, true, false, cond, List, [], ◌∷◌, ◌++◌, map, length, ◌⊎◌, inl, inr, refl, sym, ap, ◌∙◌, subst, arith}
use Rattle.std.specs.Prelude.{◌↔◌, ◌==◌, ◌&&◌, nat_lt}
use Rattle.std.specs.List.{flat_map}
use Rattle.std.specs.List.Sorted.{IsStrictlySortedBy}
use Rattle.std.specs.declared.cmp.Ordering.{Ordering}
use Rattle.std.specs.declared.cmp.Ordering.TheVariants.{Less}
use Rattle.std.specs.Ordering.{ordering_then, nat_cmp}
use Rattle.std.proofs.lemmas.Bool.{eqb-true, eqb-false, eq-eqb, ne_eqb, ltb-true, ltb-false, cond_both, true≢false, cases_eq, cases_lt, and_parts, and_from}
use Rattle.finite_sets.proofs.Members.{among_from, contains_from, among_left, among_right, among_either, Among}
use Rattle.grammar_model.specs.Grammar.{Grammar, IsPlain, Slot, WrittenRule, Plain, Sequence, rule_at, Fits, IsChildCount, IsTerminal, slot_count, child_slot}
use Rattle.grammar_model.specs.Trees.{Tree, Children, Leaf, Nulled, Node, NoChild, Child, child_count}
use Rattle.grammar_model.specs.Analysis.{IsNullable}
use Rattle.grammar_model.specs.Derives.{Edges, Derives, DerivesPrefix}
use Rattle.grammar_model.specs.Order.{IsRuleOrder, RuleOrder}
use Rattle.grammar_model.specs.All.{IsAll}
use Rattle.grammar_model.specs.Simple.{Tested, places, Below}
use Rattle.grammar_model.proofs.Total.{nullable_not_terminal}
use Rattle.grammar_model.proofs.Lists.{sorted_append, each_from}
use Rattle.grammar_model.proofs.Simple.{among_places_from, among_places, places_sorted}
use Rattle.grammar_model.proofs.Compose.{GoForward, at_cmp, place_of, IsAllPrefix, all_with_last, all_nodes}

-- ---- the definition

module _ (g : Grammar) (test : ℕ → ℕ → ℕ → Bool) (null terminal : Slot → Bool) (rules_of : Slot → List ℕ) where
  abbrev nulls_before : WrittenRule → ℕ → Bool
  nulls_before rule zero = true
  nulls_before rule (suc n) = nulls_before rule n && null (child_slot rule n)

  -- where the child after n others may start, in their order
  abbrev put_null : Bool → Bool → ℕ → List ℕ → List ℕ
  put_null high false q starts = starts
  put_null true true q starts = q ∷ starts
  put_null false true q starts = starts ++ q ∷ []

  abbrev starts_of : WrittenRule → Bool → (n p q : ℕ) → List ℕ
  starts_of rule high n p q = put_null high (null (child_slot rule n)) q (places (cond (nulls_before rule n) p (suc p)) q)

  abbrev prefixes : Below → WrittenRule → Bool → (n p q : ℕ) → List Children
  prefixes below rule high zero p q = cond (p == q) (NoChild ∷ []) []
  prefixes below rule high (suc n) p q =
      flat_map (λ r. flat_map (λ prefix. map (Child prefix) (below (child_slot rule n) r q)) (prefixes below rule high n p r)) (starts_of rule high n p q)

  module _ (high_of : ℕ → Bool) where
    abbrev within : Below → Below → ℕ → ℕ → Below
    within smaller whole p q slot a b = cond (nat_lt (b - a) (q - p)) (smaller slot a b) (whole slot a b)

    -- the derivations over one span, where those of smaller spans are known
    abbrev spread : Below → ℕ → Below
    spread smaller zero slot p q = []
    spread smaller (suc h) slot p q =
        cond (nat_lt p q) (cond (terminal slot) (cond (test slot.symbol p q) (Leaf slot.symbol p q ∷ []) [])
        (flat_map (λ i. map (λ children. Node i children p q) (prefixes (within smaller (spread smaller h) p q) (rule_at g i) (high_of i) (slot_count (rule_at g i)) p q)) (rules_of slot)))
        (cond ((p == q) && null slot) (Nulled slot.symbol p ∷ []) [])

    abbrev pub all_trees : ℕ → ℕ → Below
    all_trees bound zero = λ slot p q. []
    all_trees bound (suc d) = spread (all_trees bound d) bound

  -- ---- its proof

  module _ (forward : GoForward (Tested test)) (nulls : (s : Slot) → (null s ≡ true) ↔ IsNullable g s) where
    abbrev edge : Edges
    edge = Tested test

    ahead : (slot : Slot) (p q : ℕ) (t : Tree) → Derives g edge slot p q t → p ≤ q
    ahead slot p q (Leaf s a b) d = let h = forward s a b d.held in let e = d.from_is in let e' = d.to_is in omega arith
    ahead slot p q (Nulled s a) d = let e = d.from_is in let e' = d.to_is in omega arith
    ahead slot p q (Node i cs a b) d = let h = d.spans in omega arith

    -- what spans nothing is nullable
    nulled : (slot : Slot) (p q : ℕ) (t : Tree) → Derives g edge slot p q t → p ≡ q → IsNullable g slot
    nulled slot p q (Leaf s a b) d z = let h = forward s a b d.held in let e = d.from_is in let e' = d.to_is in absurd (omega arith)
    nulled slot p q (Nulled s a) d z = d.nullable
    nulled slot p q (Node i cs a b) d z = let h = d.spans in absurd (omega arith)

    prefix_ahead : (rule : WrittenRule) (p q : ℕ) (cs : Children) → DerivesPrefix g edge rule p q cs → p ≤ q
    prefix_ahead rule p q NoChild d = omega arith
    prefix_ahead rule p q (Child prefix t) (r, f, d) = let a = prefix_ahead rule p r prefix f in let b = ahead _ r q t d in omega arith

    prefix_nulled : (rule : WrittenRule) (p q : ℕ) (cs : Children) → DerivesPrefix g edge rule p q cs → p ≡ q → (j : ℕ) → j < child_count cs → IsNullable g (child_slot rule j)
    prefix_nulled rule p q NoChild d z j lt = absurd (omega arith)
    prefix_nulled rule p q (Child prefix t) (r, f, d) z j lt = pick (λ h. prefix_nulled rule p r prefix f (omega (arith, prefix_ahead rule p r prefix f, ahead _ r q t d)) j h) (cases_eq j (child_count prefix))
      where
        pick : (j < child_count prefix → IsNullable g (child_slot rule j)) → (j ≡ child_count prefix) ⊎ (j ≡ child_count prefix → ⊥) → IsNullable g (child_slot rule j)
        pick ih (inl e) = subst (λ k. IsNullable g (child_slot rule k)) (sym e) (nulled _ r q t d (omega (arith, prefix_ahead rule p r prefix f, ahead _ r q t d)))
        pick ih (inr ne) = ih (omega arith)

    nulls_from : (rule : WrittenRule) (n : ℕ) → nulls_before rule n ≡ true → (j : ℕ) → j < n → IsNullable g (child_slot rule j)
    nulls_from rule zero e j lt = absurd (omega arith)
    nulls_from rule (suc n) e j lt = pick (λ h. nulls_from rule n (and_parts _ _ e).0 j h) (cases_eq j n)
      where
        pick : (j < n → IsNullable g (child_slot rule j)) → (j ≡ n) ⊎ (j ≡ n → ⊥) → IsNullable g (child_slot rule j)
        pick ih (inl e') = subst (λ k. IsNullable g (child_slot rule k)) (sym e') ((nulls (child_slot rule n)).0 (and_parts _ _ e).1)
        pick ih (inr ne) = ih (omega arith)

    from_nulls : (rule : WrittenRule) (n : ℕ) → ((j : ℕ) → j < n → IsNullable g (child_slot rule j)) → nulls_before rule n ≡ true
    from_nulls rule zero h = refl
    from_nulls rule (suc n) h = and_from _ _ (from_nulls rule n (λ j lt. h j (omega arith))) ((nulls (child_slot rule n)).1 (h n (omega arith)))

    -- ---- starts

    among_put : (high b : Bool) (q r : ℕ) (starts : List ℕ) → Among r (put_null high b q starts) → ((b ≡ true) × (r ≡ q)) ⊎ Among r starts
    among_put high false q r starts m = inr m
    among_put true true q r starts (inl e) = inl (refl, sym e)
    among_put true true q r starts (inr m) = inr m
    among_put false true q r starts m = pick (among_either r starts (q ∷ []) m)
      where
        pick : Among r starts ⊎ ((q ≡ r) ⊎ ⊥) → ((true ≡ true) × (r ≡ q)) ⊎ Among r starts
        pick (inl k) = inr k
        pick (inr (inl e)) = inl (refl, sym e)
        pick (inr (inr z)) = absurd z

    put_old : (high b : Bool) (q r : ℕ) (starts : List ℕ) → Among r starts → Among r (put_null high b q starts)
    put_old high false q r starts m = m
    put_old true true q r starts m = inr m
    put_old false true q r starts m = among_left r starts (q ∷ []) m

    put_new : (high b : Bool) (q : ℕ) (starts : List ℕ) → b ≡ true → Among q (put_null high b q starts)
    put_new high false q starts e = absurd (true≢false (sym e))
    put_new true true q starts e = inl refl
    put_new false true q starts e = among_right q starts (q ∷ []) (inl refl)

    put_sorted : (high b : Bool) (q : ℕ) (starts : List ℕ) → IsStrictlySortedBy (at_cmp high q) starts → ((r : ℕ) → Among r starts → r < q) → IsStrictlySortedBy (at_cmp high q) (put_null high b q starts)
    unfolding IsStrictlySortedBy
    put_sorted high false q starts s below = s
    put_sorted true true q starts s below = (
      each_from (λ r. at_cmp true q q r ≡ Less) starts (λ r m.
          (let h = below r m in
          let a = eq-eqb q q refl in
          let b = ne_eqb r q (λ e. omega arith) in
          (λ i. ordering_then (nat_cmp (place_of true (a i)) (place_of true (b i))) (nat_cmp r q)))),
      s,
    )
    put_sorted false true q starts s below =
        sorted_append (at_cmp false q) starts (q ∷ []) s (tt, tt) (λ r r' m m'. last r r' m m')
      where
        last : (r r' : ℕ) → Among r starts → (q ≡ r') ⊎ ⊥ → at_cmp false q r r' ≡ Less
        last r r' m (inl e) =
            let h = below r m in
            let a = ne_eqb r q (λ z. omega arith) in
            let b = eq-eqb r' q (sym e) in
            (λ i. ordering_then (nat_cmp (place_of false (a i)) (place_of false (b i))) (nat_cmp r' r))
        last r r' m (inr z) = absurd z

    among_starts : (rule : WrittenRule) (high : Bool) (n p q r : ℕ) → Among r (starts_of rule high n p q) → (IsNullable g (child_slot rule n) × (r ≡ q)) ⊎ ((p ≤ r) × (r < q) × (r ≡ p → (j : ℕ) → j < n → IsNullable g (child_slot rule j)))
    among_starts rule high n p q r m = pick (among_put high (null (child_slot rule n)) q r (places (cond (nulls_before rule n) p (suc p)) q) m)
      where
        first : (b : Bool) → nulls_before rule n ≡ b → Among r (places (cond b p (suc p)) q) → (p ≤ r) × (r < q) × (r ≡ p → (j : ℕ) → j < n → IsNullable g (child_slot rule j))
        first true e k = let h = among_places_from p q r k in (h.0, h.1, λ z. nulls_from rule n e)
        first false e k = let h = among_places_from (suc p) q r k in (omega arith, h.1, λ z. absurd (omega arith))

        pick : ((null (child_slot rule n) ≡ true) × (r ≡ q)) ⊎ Among r (places (cond (nulls_before rule n) p (suc p)) q) → (IsNullable g (child_slot rule n) × (r ≡ q)) ⊎ ((p ≤ r) × (r < q) × (r ≡ p → (j : ℕ) → j < n → IsNullable g (child_slot rule j)))
        pick (inl (e, z)) = inl ((nulls (child_slot rule n)).0 e, z)
        pick (inr k) = inr (first (nulls_before rule n) refl k)

    starts_sorted : (rule : WrittenRule) (high : Bool) (n p q : ℕ) → IsStrictlySortedBy (at_cmp high q) (starts_of rule high n p q)
    starts_sorted rule high n p q =
        put_sorted high (null (child_slot rule n)) q (places (cond (nulls_before rule n) p (suc p)) q) (places_sorted high (cond (nulls_before rule n) p (suc p)) q q (omega arith))
        (λ r m. (among_places_from (cond (nulls_before rule n) p (suc p)) q r m).1)

    -- a start of a derivation is among them
    start_found : (rule : WrittenRule) (high : Bool) (n p q r : ℕ) (cs : Children) (t : Tree) → DerivesPrefix g edge rule p r cs → child_count cs ≡ n → Derives g edge (child_slot rule n) r q t → Among r (starts_of rule high n p q)
    start_found rule high n p q r cs t f c d = pick (cases_eq r q)
      where
        later : r < q → (b : Bool) → nulls_before rule n ≡ b → Among r (places (cond b p (suc p)) q)
        later lt true e = among_places p q r (prefix_ahead rule p r cs f) lt
        later lt false e = among_places (suc p) q r (strict (cases_eq p r)) lt
          where
            strict : (p ≡ r) ⊎ (p ≡ r → ⊥) → suc p ≤ r
            strict (inl z) = absurd (true≢false (sym (from_nulls rule n (λ j lt. prefix_nulled rule p r cs f z j (omega arith))) ∙ e))
            strict (inr z) = let h = prefix_ahead rule p r cs f in omega arith

        pick : (r ≡ q) ⊎ (r ≡ q → ⊥) → Among r (starts_of rule high n p q)
        pick (inl z) = subst (λ w. Among w (starts_of rule high n p q)) (sym z) (put_new high (null (child_slot rule n)) q (places (cond (nulls_before rule n) p (suc p)) q) ((nulls (child_slot rule n)).1 (nulled _ r q t d z)))
        pick (inr z) = put_old high (null (child_slot rule n)) q r (places (cond (nulls_before rule n) p (suc p)) q) (later (let h = ahead _ r q t d in omega arith) (nulls_before rule n) refl)

    module _ (order : RuleOrder) (laws : IsRuleOrder order) where
      abbrev Exactly : ℕ → ℕ → Type 0
      Exactly n m = m ≡ n

      no_prefix : (below : Below) (rule : WrittenRule) (high : Bool) (p q : ℕ) → IsAllPrefix g edge forward order laws rule high (Exactly 0) p q (prefixes below rule high 0 p q)
      unfolding IsStrictlySortedBy
      no_prefix below rule high p q = cond_both (p == q) (NoChild ∷ []) [] (IsAllPrefix g edge forward order laws rule high (Exactly 0) p q) here nowhere
        where
          only : (cs : Children) → DerivesPrefix g edge rule p q cs × Exactly 0 (child_count cs) → (NoChild ≡ cs) × (p ≡ q)
          only NoChild d = (refl, d.0)
          only (Child cs t) d = let e = d.1 in absurd (omega arith)

          here : (p == q) ≡ true → IsAllPrefix g edge forward order laws rule high (Exactly 0) p q (NoChild ∷ [])
          here e = record {
            sorted = (tt, tt);
            each = λ cs. (λ m. elim m [ inl h ↦ subst (λ x. DerivesPrefix g edge rule p q x × Exactly 0 (child_count x)) h (eqb-true p q e, refl) | inr b ↦ absurd b ], λ d. inl (only cs d).0);
          }

          nowhere : (p == q) ≡ false → IsAllPrefix g edge forward order laws rule high (Exactly 0) p q []
          nowhere e = record { sorted = tt; each = λ cs. (λ m. absurd m, λ d. eqb-false p q e (only cs d).1) }

      -- a child of a tree over p to q spans less, or what is beside it is nullable
      abbrev Smaller : WrittenRule → (p q k r s : ℕ) → Type 0
      Smaller rule p q k r s = (s - r < q - p) ⊎ ((j : ℕ) → j < slot_count rule → j ≢ k → IsNullable g (child_slot rule j))

      module _ (below : Below) (rule : WrittenRule) (high : Bool) (p q : ℕ) (spans : p < q)
          (known : (k r s : ℕ) → k < slot_count rule → p ≤ r → r ≤ s → s ≤ q → Smaller rule p q k r s → IsAll g edge order (child_slot rule k) r s (below (child_slot rule k) r s)) where
        -- the rest from place n on is nullable where the prefix reaches the end
        abbrev Rest : ℕ → ℕ → Type 0
        Rest n s = s ≡ q → (j : ℕ) → n ≤ j → j < slot_count rule → IsNullable g (child_slot rule j)

        prefixes_all : (n s : ℕ) → p ≤ s → s ≤ q → n ≤ slot_count rule → Rest n s → IsAllPrefix g edge forward order laws rule high (Exactly n) p s (prefixes below rule high n p s)
        prefixes_all zero s g0 h c rest = no_prefix below rule high p s
        prefixes_all (suc n) s g0 h c rest =
            exactly (all_with_last g edge forward order laws rule high (Exactly n) (child_slot rule n) (λ m e. ap (child_slot rule) e) p s (starts_of rule high n p s)
            (λ r. prefixes below rule high n p r) (λ r. below (child_slot rule n) r s) (starts_sorted rule high n p s)
            (λ r m. prefixes_all n r (bound r (among_starts rule high n p s r m)).0 (bound r (among_starts rule high n p s r m)).1 (omega arith) (rest_of r (among_starts rule high n p s r m)))
            (λ r m. last_all r (among_starts rule high n p s r m))
            (λ r cs t f e d. start_found rule high n p s r cs t f e d))
          where
            exactly : {ds : List Children} → IsAllPrefix g edge forward order laws rule high (λ m. (k : ℕ) × Exactly n k × (m ≡ suc k)) p s ds → IsAllPrefix g edge forward order laws rule high (Exactly (suc n)) p s ds
            exactly {ds} a = record {
              sorted = a.sorted;
              each = λ cs. (λ m. (let r = (a.each cs).0 m in (r.0, r.1.2 ∙ ap suc r.1.1)), λ d. (a.each cs).1 (d.0, (n, refl, d.1)));
            }

            bound : (r : ℕ) → (IsNullable g (child_slot rule n) × (r ≡ s)) ⊎ ((p ≤ r) × (r < s) × (r ≡ p → (j : ℕ) → j < n → IsNullable g (child_slot rule j))) → (p ≤ r) × (r ≤ q)
            bound r (inl e) = let z = e.1 in (omega arith, omega arith)
            bound r (inr e) = let z = e.1 in (e.0, omega arith)

            rest_of : (r : ℕ) → (IsNullable g (child_slot rule n) × (r ≡ s)) ⊎ ((p ≤ r) × (r < s) × (r ≡ p → (j : ℕ) → j < n → IsNullable g (child_slot rule j))) → Rest n r
            rest_of r (inl e) z j lo hi = pick (cases_eq j n)
              where
                pick : (j ≡ n) ⊎ (j ≡ n → ⊥) → IsNullable g (child_slot rule j)
                pick (inl w) = subst (λ k. IsNullable g (child_slot rule k)) (sym w) e.0
                pick (inr w) = rest (sym e.1 ∙ z) j (omega arith) hi
            rest_of r (inr e) z j lo hi = let w = e.1 in absurd (omega arith)

            last_all : (r : ℕ) → (IsNullable g (child_slot rule n) × (r ≡ s)) ⊎ ((p ≤ r) × (r < s) × (r ≡ p → (j : ℕ) → j < n → IsNullable g (child_slot rule j))) → IsAll g edge order (child_slot rule n) r s (below (child_slot rule n) r s)
            last_all r (inl e) = let z = e.1 in known n r s (omega arith) (omega arith) (omega arith) h (inl (omega arith))
            last_all r (inr e) = pick (cases_lt (s - r) (q - p))
              where
                pick : (s - r < q - p) ⊎ (q - p ≤ s - r) → IsAll g edge order (child_slot rule n) r s (below (child_slot rule n) r s)
                pick (inl lt) = let z = e.1 in known n r s (omega arith) e.0 (omega arith) h (inl lt)
                pick (inr ge) =
                    let lo = e.0 in let lt = e.1 in
                    let at_p : r ≡ p = omega arith in
                    let at_q : s ≡ q = omega arith in
                    known n r s (omega arith) lo (omega arith) h (inr (λ j hi ne. other at_p at_q j hi ne (cases_lt j n)))
                  where
                    other : r ≡ p → s ≡ q → (j : ℕ) → j < slot_count rule → j ≢ n → (j < n) ⊎ (n ≤ j) → IsNullable g (child_slot rule j)
                    other a b j hi ne (inl before) = e.2 a j before
                    other a b j hi ne (inr after) = rest b j (omega arith) hi

      abbrev parts : ℕ → ℕ
      parts i = slot_count (rule_at g i)

      abbrev key_cmp : ℕ → ℕ → Ordering
      key_cmp i j = order.cmp i (parts i) j (parts j)

      plain_count : (rule : WrittenRule) (n : ℕ) → IsPlain rule → IsChildCount rule n ↔ (n ≡ slot_count rule)
      plain_count (Plain r) n h = (λ c. c, λ c. c)
      plain_count (Sequence r) n h = absurd h

      module _ (plain : (i : ℕ) → i < length g.rules → IsPlain (rule_at g i)) (terminals : (s : Slot) → (terminal s ≡ true) ↔ IsTerminal g s.symbol)
          (rules_sorted : (slot : Slot) → IsStrictlySortedBy key_cmp (rules_of slot)) (rules_are : (slot : Slot) (i : ℕ) → Among i (rules_of slot) ↔ ((i < length g.rules) × Fits (rule_at g i) slot))
          (height : Slot → ℕ) (top : ℕ) (capped : (s : Slot) → height s < top)
          (falls : (slot : Slot) (i k : ℕ) → i < length g.rules → Fits (rule_at g i) slot → k < parts i → ((j : ℕ) → j < parts i → j ≢ k → IsNullable g (child_slot (rule_at g i) j)) → height (child_slot (rule_at g i) k) < height slot) where
        none_listed : (slot : Slot) (p q : ℕ) → ((t : Tree) → Derives g edge slot p q t → ⊥) → IsAll g edge order slot p q []
        unfolding IsStrictlySortedBy
        none_listed slot p q free = record { sorted = tt; each = λ t. (λ c. absurd (among_from [] t c), λ d. absurd (free t d)) }

        one_listed : (slot : Slot) (p q : ℕ) (u : Tree) → Derives g edge slot p q u → ((t : Tree) → Derives g edge slot p q t → u ≡ t) → IsAll g edge order slot p q (u ∷ [])
        unfolding IsStrictlySortedBy
        one_listed slot p q u d only = record {
          sorted = (tt, tt);
          each = λ t. (λ c. elim (among_from (u ∷ []) t c) [ inl h ↦ subst (Derives g edge slot p q) h d | inr b ↦ absurd b ], λ d'. contains_from (u ∷ []) t (inl (only t d')));
        }

        leaf_listed : (slot : Slot) (p q : ℕ) → p < q → IsTerminal g slot.symbol → IsAll g edge order slot p q (cond (test slot.symbol p q) (Leaf slot.symbol p q ∷ []) [])
        leaf_listed slot p q lt tm =
            cond_both (test slot.symbol p q) (Leaf slot.symbol p q ∷ []) [] (IsAll g edge order slot p q)
            (λ e. one_listed slot p q (Leaf slot.symbol p q) (record { symbol_is = refl; from_is = refl; to_is = refl; terminal = tm; held = e }) (λ t d. (only t d).0))
            (λ e. none_listed slot p q (λ t d. true≢false (sym (only t d).1 ∙ e)))
          where
            only : (t : Tree) → Derives g edge slot p q t → (Leaf slot.symbol p q ≡ t) × (test slot.symbol p q ≡ true)
            only (Leaf s a b) d = (
              (λ i. Leaf (sym d.symbol_is i) (sym d.from_is i) (sym d.to_is i)),
              ap (λ s. test s p q) (sym d.symbol_is) ∙ ap (λ i. test s i q) (sym d.from_is) ∙ ap (λ j. test s a j) (sym d.to_is) ∙ d.held,
            )
            only (Nulled s a) d = absurd (nullable_not_terminal g slot d.nullable tm)
            only (Node i cs a b) d = absurd (tm i d.in_range d.fits.0)

        null_listed : (slot : Slot) (p q : ℕ) → q ≤ p → IsAll g edge order slot p q (cond ((p == q) && null slot) (Nulled slot.symbol p ∷ []) [])
        null_listed slot p q le =
            cond_both ((p == q) && null slot) (Nulled slot.symbol p ∷ []) [] (IsAll g edge order slot p q)
            (λ e. (let b = and_parts _ _ e in
            let n = (nulls slot).0 b.1 in
            one_listed slot p q (Nulled slot.symbol p) (record { symbol_is = refl; from_is = refl; to_is = eqb-true p q b.0; nullable = n }) (λ t d. only t d)))
            (λ e. none_listed slot p q (λ t d. (let a = ahead slot p q t d in
            let z : p ≡ q = omega arith in
            true≢false (sym (and_from _ _ (eq-eqb p q z) ((nulls slot).1 (nulled slot p q t d z))) ∙ e))))
          where
            only : (t : Tree) → Derives g edge slot p q t → Nulled slot.symbol p ≡ t
            only (Leaf s a b) d = let h = forward s a b d.held in let e = d.from_is in let e' = d.to_is in absurd (omega arith)
            only (Nulled s a) d = λ i. Nulled (sym d.symbol_is i) (sym d.from_is i)
            only (Node i cs a b) d = let h = d.spans in absurd (omega arith)

        spread_all : (smaller : Below) (d : ℕ) → ((s : Slot) (a b : ℕ) → b < a + d → IsAll g edge order s a b (smaller s a b)) → (h : ℕ) (slot : Slot) (p q : ℕ) → q ≤ p + d → height slot < h → IsAll g edge order slot p q (spread order.null_high smaller h slot p q)
        spread_all smaller d small zero slot p q le lt = absurd (omega arith)
        spread_all smaller d small (suc h) slot p q le lt =
            cond_both (nat_lt p q) _ _ (IsAll g edge order slot p q)
            (λ e. cond_both (terminal slot) _ _ (IsAll g edge order slot p q)
            (λ t. leaf_listed slot p q (ltb-true p q e) ((terminals slot).0 t))
            (λ t. nodes_listed (λ s a b le lt. spread_all smaller d small h s a b le lt) (ltb-true p q e) t))
            (λ e. null_listed slot p q (ltb-false p q e))
          where
            nodes_listed : ((s : Slot) (a b : ℕ) → b ≤ a + d → height s < h → IsAll g edge order s a b (spread order.null_high smaller h s a b)) → p < q → terminal slot ≡ false →
                IsAll g edge order slot p q (flat_map (λ i. map (λ children. Node i children p q) (prefixes (within order.null_high smaller (spread order.null_high smaller h) p q) (rule_at g i) (order.null_high i) (parts i) p q)) (rules_of slot))
            nodes_listed ih spans inner =
                all_nodes g edge forward order laws ℕ key_cmp (λ i. i) (λ i. Exactly (parts i)) slot p q spans
                (λ t. true≢false (sym ((terminals slot).1 t) ∙ inner)) (rules_of slot)
                (λ i. prefixes (within order.null_high smaller (spread order.null_high smaller h) p q) (rule_at g i) (order.null_high i) (parts i) p q)
                (rules_sorted slot)
                (λ i j m n a b e e'. (λ z. order.cmp i (e z) j (e' z)))
                (λ i a. (let r = (rules_are slot i).0 a in (r.0, r.1, λ n e. (plain_count (rule_at g i) n (plain i r.0)).1 e)))
                (λ i a. (let r = (rules_are slot i).0 a in
                prefixes_all (within order.null_high smaller (spread order.null_high smaller h) p q) (rule_at g i) (order.null_high i) p q spans (known i r.0 r.1) (parts i) q (omega arith) (omega arith) (omega arith) (λ z j lo hi. absurd (omega arith))))
                (λ i n a f c. (i, (rules_are slot i).1 (a, f), refl, (plain_count (rule_at g i) n (plain i a)).0 c))
              where
                known : (i : ℕ) → i < length g.rules → Fits (rule_at g i) slot → (k r s : ℕ) → k < parts i → p ≤ r → r ≤ s → s ≤ q → Smaller (rule_at g i) p q k r s → IsAll g edge order (child_slot (rule_at g i) k) r s (within order.null_high smaller (spread order.null_high smaller h) p q (child_slot (rule_at g i) k) r s)
                known i in_range fits k r s hk lo mid hi way =
                    cond_both (nat_lt (s - r) (q - p)) _ _ (IsAll g edge order (child_slot (rule_at g i) k) r s)
                    (λ e. (let l = ltb-true (s - r) (q - p) e in small (child_slot (rule_at g i) k) r s (omega arith)))
                    (λ e. (let l = ltb-false (s - r) (q - p) e in ih (child_slot (rule_at g i) k) r s (omega arith) (omega (arith, lower way l))))
                  where
                    lower : Smaller (rule_at g i) p q k r s → q - p ≤ s - r → height (child_slot (rule_at g i) k) < height slot
                    lower (inl l) l' = absurd (omega arith)
                    lower (inr others) l' = falls slot i k in_range fits hk others

        pub trees_listed : (d : ℕ) (slot : Slot) (p q : ℕ) → q < p + d → IsAll g edge order slot p q (all_trees order.null_high top d slot p q)
        trees_listed zero slot p q lt = none_listed slot p q (λ t e. (let a = ahead slot p q t e in omega arith))
        trees_listed (suc d) slot p q lt = spread_all (all_trees order.null_high top d) d (λ s a b l. trees_listed d s a b l) top slot p q (omega arith) (capped slot)

        -- so there is a list of all derivations of each slot over each span
        pub a_list : (slot : Slot) (p q : ℕ) → (trees : List Tree) × IsAll g edge order slot p q trees
        a_list slot p q = (all_trees order.null_high top (suc q) slot p q, trees_listed (suc q) slot p q (omega arith))
