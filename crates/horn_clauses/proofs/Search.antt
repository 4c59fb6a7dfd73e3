-- The steps of a search keep what it has found and what waits.
use Rattle.std.proofs.Common.{arith, ◌≡◌, ◌≢◌, ◌↔◌, ◌⊎◌, inl, inr, ℕ, zero, suc, ◌+◌, ◌<◌, ◌≤◌, List, [], ◌∷◌, ◌++◌, length, take, All, Contains, slice_index, slice_set, slice_get, Option, Some, None, sym, ◌∙◌, ap, subst, length-append, length-set, append-nil, append_assoc}
use Rattle.std.proofs.lemmas.List.{get_or-set_same, get_or-set_other, get_or_default, get_or_append_left, take_more}
use Rattle.std.proofs.lemmas.List.Elements.{Contains-push_cases, Contains-get_or}
use Rattle.finite_sets.proofs.Lists.{Contains-none}
use Rattle.horn_clauses.specs.Least.{Clause, clause_at, part_at, IsDerivedIn, IsLeastSet, AreBelow, IsSearch, Waits, Adds, Advances, HasVisited, Extends}
use Rattle.horn_clauses.specs.Rows.{HasPlaces}
use Rattle.jagged.specs.Rows.{row_at}
use Rattle.horn_clauses.proofs.Found.{adds_derived, adds_made, adds_extends, adds_has, extends_keeps}

pub same_or_below : (m k : ℕ) → m < k + 1 → (m < k) ⊎ (m ≡ k)
same_or_below m k lt = grind arith

pub got_at : (xs : List ℕ) (k x : ℕ) → Some x ≡ slice_get xs k → (k < length xs) × (slice_index xs k ≡ x)
got_at [] k x e = absurd (cc)
got_at (y ∷ ys) zero x e = (omega arith, cc)
got_at (y ∷ ys) (suc k) x e = let (lt, e') = got_at ys k x e in (omega arith, e')

pub got_none : (xs : List ℕ) (k : ℕ) → Path (Option ℕ) None (slice_get xs k) → length xs ≤ k
got_none [] k e = omega arith
got_none (y ∷ ys) zero e = absurd (cc)
got_none (y ∷ ys) (suc k) e = let h = got_none ys k e in omega arith

pub same_or_other : (m k : ℕ) → (m ≡ k) ⊎ (m ≢ k)
same_or_other m k = grind arith

module _ (cs : List Clause) where
  -- nothing is found yet
  pub begun_search : (places : List ℕ) → length places ≡ length cs → ((i : ℕ) → slice_index places i ≡ 0) → IsSearch cs [] places
  begun_search places e zeros = record {
    derived = λ x h. absurd (Contains-none x h);
    made = λ k lt. absurd (omega arith);
    sized = e;
    within = λ i lt. let z = zeros i in omega arith;
    passed = λ i m lt below. let z = zeros i in absurd (omega arith);
  }

  module _ (keys places : List ℕ) (s : IsSearch cs keys places) (i p : ℕ) (lt : i < length cs) (within : p ≤ length (clause_at cs i).body)
      (passed : (m : ℕ) → slice_index places i ≤ m → m < p → Contains keys (slice_index (clause_at cs i).body m)) where
    here : slice_index (slice_set places i p) i ≡ p
    here = get_or-set_same places i p 0 (let e = s.sized in omega arith)

    there : (j : ℕ) → j ≢ i → slice_index (slice_set places i p) j ≡ slice_index places j
    there j ne = get_or-set_other places i j p 0 ne

    all_passed : (m : ℕ) → m < p → Contains keys (slice_index (clause_at cs i).body m)
    all_passed m below = elim (le_or m (slice_index places i)) [ inl old ↦ s.passed i m lt old | inr new ↦ passed m new below ]
      where
        le_or : (a b : ℕ) → (a < b) ⊎ (b ≤ a)
        le_or a b = grind arith

    pub moved : IsSearch cs keys (slice_set places i p)
    moved = record {
      derived = s.derived;
      made = s.made;
      sized = length-set places i p ∙ s.sized;
      within = λ j below. elim (same_or_other j i) [
        | inl same ↦ subst (λ j. slice_index (slice_set places i p) j ≤ length (clause_at cs j).body) (sym same) (subst (λ q. q ≤ length (clause_at cs i).body) (sym here) within)
        | inr ne ↦ subst (λ q. q ≤ length (clause_at cs j).body) (sym (there j ne)) (s.within j below)
      ];
      passed = λ j m below behind. elim (same_or_other j i) [
        | inl same ↦ subst (λ j. Contains keys (slice_index (clause_at cs j).body m)) (sym same) (all_passed m (subst (λ q. m < q) (ap (slice_index (slice_set places i p)) same ∙ here) behind))
        | inr ne ↦ s.passed j m below (subst (λ q. m < q) (there j ne) behind)
      ];
    }

    -- it waits for a number that is not found
    pub stopped : p < length (clause_at cs i).body → (Contains keys (slice_index (clause_at cs i).body p) → ⊥) → Advances cs keys places keys (slice_set places i p) i
    stopped less fresh =
        let settled : (k : ℕ) → k ≤ length keys → Waits cs keys (slice_set places i p) k i =
        λ k le. inr (
          subst (λ q. q < length (clause_at cs i).body) (sym here) less,
          λ j jk e. fresh (subst (Contains keys) (e ∙ ap (slice_index (clause_at cs i).body) here) (Contains-get_or keys j 0 (omega arith))),
        ) in
        record {
          search = moved;
          extends = ([], sym (append-nil keys));
          settled = settled;
          others = λ k j le w. elim (same_or_other j i) [
            | inl same ↦ subst (Waits cs keys (slice_set places i p) k) (sym same) (settled k le)
            | inr ne ↦ subst (λ q. Contains keys (clause_at cs j).head ⊎ ((q < length (clause_at cs j).body) × ((n : ℕ) → n < k → slice_index keys n ≢ slice_index (clause_at cs j).body q))) (sym (there j ne)) w
          ];
        }

    -- the head is found
    pub ended : (new : List ℕ) → p ≡ length (clause_at cs i).body → Adds keys new (clause_at cs i).head → Advances cs keys places new (slice_set places i p) i
    ended new e adds =
        let ext = adds_extends keys new (clause_at cs i).head adds in
        let has = adds_has keys new (clause_at cs i).head adds in
        record {
          search = record {
            derived = adds_derived cs keys new i s.derived lt (λ m d below. subst (Contains keys) (get_or_default (clause_at cs i).body m 0 d below) (all_passed m (omega arith))) adds;
            made = adds_made cs keys new i s.made lt (λ m d below. subst (Contains keys) (get_or_default (clause_at cs i).body m 0 d below) (all_passed m (omega arith))) adds;
            sized = moved.sized;
            within = moved.within;
            passed = λ j m below behind. extends_keeps keys new ext (slice_index (clause_at cs j).body m) (moved.passed j m below behind);
          };
          extends = ext;
          settled = λ k le. inl has;
          others = λ k j le w. elim (same_or_other j i) [
            | inl same ↦ inl (subst (λ j. Contains new (clause_at cs j).head) (sym same) has)
            | inr ne ↦ subst (λ q. Contains new (clause_at cs j).head ⊎ ((q < length (clause_at cs j).body) × ((n : ℕ) → n < k → slice_index new n ≢ slice_index (clause_at cs j).body q))) (sym (there j ne)) (kept j k le ext w)
          ];
        }
      where
        kept : (j k : ℕ) → k ≤ length keys → Extends keys new → Waits cs keys places k j → Waits cs new places k j
        kept j k le (more, e) (inl h) = inl (extends_keeps keys new (more, e) (clause_at cs j).head h)
        kept j k le (more, e) (inr (less, none)) = inr (less, λ n nk same. none n nk (sym (ap (λ l. slice_index l n) e ∙ get_or_append_left keys more 0 n (omega arith)) ∙ same))

  module _ (keys places : List ℕ) where
    -- no clause of the row so far
    pub visit_begun : (row : List ℕ) (k : ℕ) → IsSearch cs keys places → ((i : ℕ) → i < length cs → Waits cs keys places k i) → HasVisited cs keys (take 0 row) k keys places
    visit_begun row k s w = record { search = s; extends = ([], sym (append-nil keys)); waits = w; done = λ i h. absurd (Contains-none i h) }

    -- one clause more of the row
    pub visit_more : (row : List ℕ) (k n i : ℕ) (keys' places' new_keys new_places : List ℕ) → k < length keys → n < length row → i ≡ slice_index row n →
        HasVisited cs keys (take n row) k keys' places' → Advances cs keys' places' new_keys new_places i → HasVisited cs keys (take (n + 1) row) k new_keys new_places
    visit_more row k n i keys' places' new_keys new_places kl nl e v a =
        let (m1, e1) = v.extends in
        let (m2, e2) = a.extends in
        let l1 : length keys' ≡ length keys + length m1 = ap length e1 ∙ length-append keys m1 in
        let l2 : length new_keys ≡ length keys' + length m2 = ap length e2 ∙ length-append keys' m2 in
        record {
          search = a.search;
          extends = (m1 ++ m2, e2 ∙ ap (λ l. l ++ m2) e1 ∙ append_assoc keys m1 m2);
          waits = λ j lt. a.others k j (omega arith) (v.waits j lt);
          done = λ j h. elim (Contains-push_cases (take n row) (slice_index row n) j (subst (λ l. Contains l j) (take_more row n 0 nl) h)) [
            | inl old ↦ a.others (suc k) j (omega arith) (v.done j old)
            | inr now ↦ subst (Waits cs new_keys new_places (suc k)) (e ∙ now) (a.settled (suc k) (omega arith))
          ];
        }

    -- the same of a row that has the same clauses
    pub visit_same : (row other : List ℕ) (k : ℕ) (new_keys new_places : List ℕ) → ((n : ℕ) → Contains row n ↔ Contains other n) → HasVisited cs keys row k new_keys new_places → HasVisited cs keys other k new_keys new_places
    visit_same row other k new_keys new_places same v = record { search = v.search; extends = v.extends; waits = v.waits; done = λ i h. v.done i ((same i).1 h) }

    -- once the row is done nothing waits for its number
    pub visit_done : (rows : List (List ℕ)) (k x : ℕ) (new_keys new_places : List ℕ) → HasPlaces cs rows → k < length keys → slice_index keys k ≡ x → HasVisited cs keys (row_at rows x) k new_keys new_places →
        (i : ℕ) → i < length cs → Waits cs new_keys new_places (suc k) i
    visit_done rows k x new_keys new_places has kl e v i lt = by v.extends (v.waits i lt)
      where
        more : (j part : ℕ) → j < suc k → ((n : ℕ) → n < k → slice_index new_keys n ≢ part) → slice_index new_keys k ≢ part → slice_index new_keys j ≢ part
        more j part jk none ne same = elim (same_or_below j k (omega arith)) [ inl b ↦ none j b same | inr s ↦ ne (subst (λ n. slice_index new_keys n ≡ part) s same) ]

        by : Extends keys new_keys → Waits cs new_keys new_places k i → Waits cs new_keys new_places (suc k) i
        by ext (inl h) = inl h
        by (more_keys, e2) (inr (less, none)) =
            let found : slice_index new_keys k ≡ x = ap (λ l. slice_index l k) e2 ∙ (get_or_append_left keys more_keys 0 k kl ∙ e) in
            elim (same_or_other x (part_at cs new_places i)) [
              | inl same ↦ v.done i (subst (λ y. Contains (row_at rows y) i) (sym same) (has.all i (slice_index new_places i) lt less))
              | inr ne ↦ inr (less, λ j jk. more j (part_at cs new_places i) jk none (λ z. ne (sym found ∙ z)))
            ]

  -- all that is found is gone on from
  pub closed_all : (keys places : List ℕ) (k : ℕ) → IsSearch cs keys places → ((i : ℕ) → i < length cs → Waits cs keys places k i) → length keys ≤ k → IsLeastSet cs keys
  closed_all keys places k s w le = record {
    derived = λ x h. (length keys, s.derived x h);
    closed = λ i lt all. by i lt all (w i lt);
    made = s.made;
  }
    where
      by : (i : ℕ) → i < length cs → All (Contains keys) (clause_at cs i).body → Waits cs keys places k i → Contains keys (clause_at cs i).head
      by i lt all (inl h) = h
      by i lt all (inr (less, none)) =
          let (j, jl, e) = all (slice_index places i) 0 less in
          absurd (none j (omega arith) (get_or_default keys j 0 (part_at cs places i) jl ∙ e))

  pub found_below : (bound n x : ℕ) → AreBelow bound cs → IsDerivedIn n cs x → x < bound
  found_below bound zero x below h = absurd h
  found_below bound (suc n) x below (i, lt, e, all) = subst (λ y. y < bound) e (below i lt).0
