-- Edges held by their places: what stands at a number, and how a part of the list is cut out.
use Rattle.std.proofs.Common.{◌≡◌, ◌≢◌, ℕ, zero, suc, ◌+◌, ◌-◌, ◌<◌, ◌≤◌, ◌++◌, ◌↔◌, List, [], ◌∷◌, length, take, drop, get_or, Some, Contains, refl, sym, ap, ◌∙◌, subst, ⊎_elim, ◌⊎◌, inl, inr, arith, length-append, length-take, length-drop}
use Rattle.std.specs.Prelude.{nat_lt, slice_get, slice_index, slice_index_or, AllPairs}
use Rattle.std.specs.List.Sorted.{IsPartitionedBy}
use Rattle.std.proofs.lemmas.Bool.{ltb-true, lt-ltb, cases_lt}
use Rattle.std.proofs.lemmas.List.{get_or-take, get_or-drop, get_or_append_left, get_or-append-add, get_or_default}
use Rattle.std.proofs.lemmas.List.Elements.{Contains-append_left, Contains-push, Contains-push_cases}
use Rattle.std.proofs.lemmas.List.Quantifiers.{all_pairs_push}
use Rattle.std.proofs.lemmas.Option.{slice_get-get_or}
use Rattle.finite_sets.proofs.Lists.{get_index}
use Rattle.grammar_model.specs.declared.Edge.{Edge as HeldEdge}
use Rattle.grammar_model.specs.declared.limits.TheConstants.{LAST_PLACE, LONGEST_EDGE}
use Rattle.grammar_core.specs.declared.edges.Edge.{Edge}
use Rattle.grammar_core.specs.Edges.{placed, all_placed, AreOrdered, AreLongOf, ArePlaced, GoFrom}

module _ {A : Type 0} (xs : List A) where
  pub found_at : (x : A) → Contains xs x → (k : ℕ) × (slice_get xs k ≡ Some x)
  found_at x (k, lt, e) = (k, slice_get-get_or xs k x lt ∙ ap Some e)

  pub at_found : (k : ℕ) (x : A) → slice_get xs k ≡ Some x → Contains xs x
  at_found k x e = let (lt, h) = get_index xs k x x e in (k, lt, h)

-- what stands in a part of a list
module _ {A : Type 0} (xs : List A) (start end : ℕ) (le : start ≤ end) (bound : end ≤ length xs) where
  pub part_length : length (take (end - start) (drop start xs)) ≡ end - start
  part_length = grind (arith, length-take, length-drop)

  pub part_from : (x : A) → Contains (take (end - start) (drop start xs)) x → (k : ℕ) × (start ≤ k) × (k < end) × (slice_get xs k ≡ Some x)
  part_from x (k, lt, e) =
      let l = part_length in
      let short : k < end - start = omega arith in
      (start + k, omega arith, omega arith, slice_get-get_or xs (start + k) x (omega arith) ∙ ap Some (sym (get_or-take (end - start) (drop start xs) k x short ∙ get_or-drop start xs k x) ∙ e))

  pub part_to : (k : ℕ) (x : A) → start ≤ k → k < end → slice_get xs k ≡ Some x → Contains (take (end - start) (drop start xs)) x
  part_to k x from to e =
      let l = part_length in
      let (lt, h) = get_index xs k x x e in
      let same : start + (k - start) ≡ k = omega arith in
      (k - start, omega arith, get_or-take (end - start) (drop start xs) (k - start) x (omega arith) ∙ (get_or-drop start xs (k - start) x ∙ (ap (λ n. get_or xs n x) same ∙ h)))

pub placed_length : (ps : List ℕ) (es : List Edge) → length ps ≡ length es → length (all_placed ps es) ≡ length es
placed_length [] [] e = refl
placed_length [] (x ∷ es) e = absurd (omega arith)
placed_length (p ∷ ps) [] e = refl
placed_length (p ∷ ps) (x ∷ es) e = ap suc (placed_length ps es (omega arith))

pub placed_at : (ps : List ℕ) (es : List Edge) (k p : ℕ) (e : Edge) → slice_get ps k ≡ Some p → slice_get es k ≡ Some e → slice_get (all_placed ps es) k ≡ Some (placed p e)
placed_at [] es k p e a b = absurd (cc)
placed_at (q ∷ ps) [] k p e a b = absurd (cc)
placed_at (q ∷ ps) (x ∷ es) zero p e a b = let a' : q ≡ p = cc in let b' : x ≡ e = cc in ap Some (ap (λ z. placed z x) a' ∙ ap (placed p) b')
placed_at (q ∷ ps) (x ∷ es) (suc k) p e a b = placed_at ps es k p e a b

pub record IsPlacedAt (ps : List ℕ) (es : List Edge) (k : ℕ) (h : HeldEdge) : Type 0 where
  pub place : ℕ
  pub edge : Edge
  pub at : slice_get ps k ≡ Some place
  pub is : slice_get es k ≡ Some edge
  pub same : h ≡ placed place edge

pub at_placed : (ps : List ℕ) (es : List Edge) (k : ℕ) (h : HeldEdge) → slice_get (all_placed ps es) k ≡ Some h → IsPlacedAt ps es k h
at_placed [] es k h e = absurd (cc)
at_placed (p ∷ ps) [] k h e = absurd (cc)
at_placed (p ∷ ps) (x ∷ es) zero h e = record { place = p; edge = x; at = refl; is = refl; same = cc }
at_placed (p ∷ ps) (x ∷ es) (suc k) h e = let r = at_placed ps es k h e in record { place = r.place; edge = r.edge; at = r.at; is = r.is; same = r.same }

pub placed_more : (ps : List ℕ) (es : List Edge) (p : ℕ) (e : Edge) → length ps ≡ length es → all_placed (ps ++ p ∷ []) (es ++ e ∷ []) ≡ all_placed ps es ++ placed p e ∷ []
placed_more [] [] p e s = refl
placed_more [] (x ∷ es) p e s = absurd (omega arith)
placed_more (q ∷ ps) [] p e s = absurd (omega arith)
placed_more (q ∷ ps) (x ∷ es) p e s = ap (λ l. placed q x ∷ l) (placed_more ps es p e (omega arith))

module _ (places : List ℕ) (ordered : AreOrdered places) (at : ℕ) where
  at_any : (k d : ℕ) → k < length places → get_or places k d ≡ slice_index places k
  at_any k d lt = get_or_default places k d 0 lt

  pub before_partitioned : IsPartitionedBy (λ p. nat_lt p at) places
  before_partitioned i j d le lt e =
      let h = ltb-true _ _ e in
      let o = ordered i j le lt in
      let a = at_any i d (omega arith) in
      let b = at_any j d lt in
      lt-ltb _ _ (omega arith)

  pub ordered_more : ((p : ℕ) → Contains places p → p ≤ at) → AreOrdered (places ++ at ∷ [])
  ordered_more last i j le lt = go (cases_lt j (length places))
    where
      size : length (places ++ at ∷ []) ≡ length places + 1
      size = length-append places (at ∷ [])

      left : (k : ℕ) → k < length places → slice_index (places ++ at ∷ []) k ≡ slice_index places k
      left k lt' = get_or_append_left places (at ∷ []) 0 k lt'

      right : slice_index (places ++ at ∷ []) (length places + 0) ≡ at
      right = get_or-append-add places (at ∷ []) 0 0

      lower : (k : ℕ) → k < length places → slice_index places k ≤ at
      lower k lt' = last (slice_index places k) (k, lt', at_any k (slice_index places k) lt')

      go : (j < length places) ⊎ (length places ≤ j) → slice_index (places ++ at ∷ []) i ≤ slice_index (places ++ at ∷ []) j
      go (inl l) = let a = left i (omega arith) in let b = left j l in let o = ordered i j le l in omega arith
      go (inr g) = here (cases_lt i (length places))
        where
          there : j ≡ length places + 0
          there = let s = size in omega arith

          at_j : slice_index (places ++ at ∷ []) j ≡ at
          at_j = ap (slice_index (places ++ at ∷ [])) there ∙ right

          here : (i < length places) ⊎ (length places ≤ i) → slice_index (places ++ at ∷ []) i ≤ slice_index (places ++ at ∷ []) j
          here (inl l) = let a = left i l in let b = lower i l in let c = at_j in omega arith
          here (inr g') = let same : i ≡ j = (let s = size in omega arith) in subst (λ z. slice_index (places ++ at ∷ []) i ≤ slice_index (places ++ at ∷ []) z) same (omega arith)

module _ (places : List ℕ) (edges : List Edge) (long : List HeldEdge) (are : ArePlaced places edges long) where
  -- the edges between the first that begins at the place and the first after it
  pub part_is : (at start end : ℕ) → start ≤ length places → end ≤ length places →
      ((k : ℕ) → k < start → slice_index places k < at) → ((k : ℕ) → start ≤ k → k < length places → at ≤ slice_index places k) →
      ((k : ℕ) → k < end → slice_index places k ≤ at) → ((k : ℕ) → end ≤ k → k < length places → at < slice_index places k) →
      (start ≤ end) × ((e : Edge) → Contains (take (end - start) (drop start edges)) e ↔ Contains (all_placed places edges) (placed at e))
  part_is at start end bs be b1 a1 b2 a2 = (le, λ e. (there e, back e))
    where
      le : start ≤ end
      le = go (cases_lt end start)
        where
          go : (end < start) ⊎ (start ≤ end) → start ≤ end
          go (inr l) = l
          go (inl l) = let x = b1 end l in let y = a2 end (omega arith) (omega arith) in absurd (omega arith)

      bound : end ≤ length edges
      bound = let s = are.same in omega arith

      there : (e : Edge) → Contains (take (end - start) (drop start edges)) e → Contains (all_placed places edges) (placed at e)
      there e h =
          let (k, from, to, is) = part_from edges start end le bound e h in
          let lt : k < length places = omega arith in
          let x = a1 k from lt in
          let y = b2 k to in
          let same : slice_index places k ≡ at = omega arith in
          at_found (all_placed places edges) k (placed at e) (placed_at places edges k at e (slice_get-get_or places k 0 lt ∙ ap Some same) is)

      back : (e : Edge) → Contains (all_placed places edges) (placed at e) → Contains (take (end - start) (drop start edges)) e
      back e h =
          let (k, is) = found_at (all_placed places edges) (placed at e) h in
          let r = at_placed places edges k (placed at e) is in
          let from : at ≡ r.place = ap (λ (z : HeldEdge). z.from) r.same in
          let ends : at + e.length ≡ r.place + r.edge.length = ap (λ (z : HeldEdge). z.to) r.same in
          let size : e.length ≡ r.edge.length = omega arith in
          let symbol : e.symbol ≡ r.edge.symbol = ap (λ (z : HeldEdge). z.symbol) r.same in
          let edge : e ≡ r.edge = λ i. record { symbol = symbol i; length = size i } in
          let (lt, is') = get_index places k 0 r.place r.at in
          part_to edges start end le bound k e (first k lt is' from) (last k lt is' from) (r.is ∙ ap Some (sym edge))
        where
          first : (k : ℕ) {p : ℕ} → k < length places → slice_index places k ≡ p → at ≡ p → start ≤ k
          first k lt e f = go (cases_lt k start)
            where
              go : (k < start) ⊎ (start ≤ k) → start ≤ k
              go (inr l) = l
              go (inl l) = let x = b1 k l in absurd (omega arith)

          last : (k : ℕ) {p : ℕ} → k < length places → slice_index places k ≡ p → at ≡ p → k < end
          last k lt e f = go (cases_lt k end)
            where
              go : (k < end) ⊎ (end ≤ k) → k < end
              go (inl l) = l
              go (inr l) = let x = a2 k l lt in absurd (omega arith)

  pub part_once : (at start end : ℕ) → start ≤ end → end ≤ length places →
      ((k : ℕ) → start ≤ k → k < length places → at ≤ slice_index places k) → ((k : ℕ) → k < end → slice_index places k ≤ at) → AllPairs (λ a b. a ≢ b) (take (end - start) (drop start edges))
  part_once at start end le bound above below i j d lt short same = are.once (start + i) (start + j) (placed at d)
      (omega (arith, lt)) (let n = placed_length places edges are.same in let s = are.same in let q = inside in omega arith) (one i (let q = inside in omega arith) ∙ (ap (placed at) same ∙ sym (one j inside)))
    where
      size : length (take (end - start) (drop start edges)) ≡ end - start
      size = part_length edges start end le (let s = are.same in omega arith)

      inside : j < end - start
      inside = let s = size in omega arith

      one : (k : ℕ) → k < end - start → slice_index_or (all_placed places edges) (start + k) (placed at d) ≡ placed at (slice_index_or (take (end - start) (drop start edges)) k d)
      one k lt' =
          let x = get_or edges (start + k) d in
          let s = are.same in
          let in_places : start + k < length places = omega arith in
          let a = above (start + k) (omega arith) in_places in
          let b = below (start + k) (omega arith) in
          let there : slice_index places (start + k) ≡ at = omega arith in
          let held = placed_at places edges (start + k) at x (slice_get-get_or places (start + k) 0 in_places ∙ ap Some there) (slice_get-get_or edges (start + k) d (omega arith)) in
          let (below_all, is) = get_index (all_placed places edges) (start + k) (placed at d) (placed at x) held in
          is ∙ ap (placed at) (sym (get_or-take (end - start) (drop start edges) k d lt' ∙ get_or-drop start edges k d))

  -- each goes forward, and not too far
  pub placed_bounds : (h : HeldEdge) → Contains (all_placed places edges) h → (h.from < h.to) × (h.to ≤ h.from + LONGEST_EDGE)
  placed_bounds h c =
      let (k, is) = found_at (all_placed places edges) h c in
      let r = at_placed places edges k h is in
      let from : h.from ≡ r.place = ap (λ (z : HeldEdge). z.from) r.same in
      let to : h.to ≡ r.place + r.edge.length = ap (λ (z : HeldEdge). z.to) r.same in
      let there = at_found edges k r.edge r.is in
      let some = are.some r.edge there in
      let short = are.short r.edge there in
      (omega arith, omega arith)

  -- none begins before an earlier one
  pub placed_order : AllPairs (λ (a b : HeldEdge). a.from ≤ b.from) (all_placed places edges)
  placed_order i j d lt end =
      let n = placed_length places edges are.same in
      let same = are.same in
      let (lt_i, at_i) = from_at i (slice_index_or (all_placed places edges) i d) (slice_get-get_or (all_placed places edges) i d (omega arith)) in
      let (lt_j, at_j) = from_at j (slice_index_or (all_placed places edges) j d) (slice_get-get_or (all_placed places edges) j d end) in
      let o = are.order i j (omega arith) lt_j in
      omega arith
    where
      from_at : (k : ℕ) (h : HeldEdge) → slice_get (all_placed places edges) k ≡ Some h → (k < length places) × (slice_index places k ≡ h.from)
      from_at k h is =
          let r = at_placed places edges k h is in
          let (lt, at) = get_index places k 0 r.place r.at in
          (lt, at ∙ sym (ap (λ (z : HeldEdge). z.from) r.same))

  pub placed_from : (at : ℕ) → GoFrom (all_placed places edges) at → (p : ℕ) → Contains places p → p ≤ at
  placed_from at all p h =
      let (k, is) = found_at places p h in
      let (lt, is') = get_index places k 0 p is in
      let s = are.same in
      let lt' : k < length edges = omega arith in
      let d : Edge = record { symbol = 0; length = 0 } in
      all (placed p (get_or edges k d)) (at_found (all_placed places edges) k (placed p (get_or edges k d)) (placed_at places edges k p (get_or edges k d) is (slice_get-get_or edges k d lt')))

  -- one more
  pub are_more : (at : ℕ) (e : Edge) (longer : List HeldEdge) → GoFrom (all_placed places edges) at → at ≤ LAST_PLACE → 0 < e.length → e.length ≤ LONGEST_EDGE → (¬ Contains (all_placed places edges) (placed at e)) →
      AreLongOf (all_placed places edges ++ placed at e ∷ []) longer → ArePlaced (places ++ at ∷ []) (edges ++ e ∷ []) longer
  are_more at e longer from here some up new is_long = record {
    same = let a = length-append places (at ∷ []) in let b = length-append edges (e ∷ []) in let s = are.same in omega arith;
    order = ordered_more places are.order at (placed_from at from);
    in_range = λ p h. ⊎_elim (are.in_range p) (λ s. subst (λ z. z ≤ LAST_PLACE) s here) (Contains-push_cases places at p h);
    some = λ x h. ⊎_elim (are.some x) (λ s. subst (λ (z : Edge). 0 < z.length) s some) (Contains-push_cases edges e x h);
    short = λ x h. ⊎_elim (are.short x) (λ s. subst (λ (z : Edge). z.length ≤ LONGEST_EDGE) s up) (Contains-push_cases edges e x h);
    once = subst (AllPairs (λ a b. a ≢ b)) (sym more) (all_pairs_push (λ a b. a ≢ b) (all_placed places edges) (placed at e) are.once
        (λ k d lt same. new (k, lt, get_or_default (all_placed places edges) k (placed at e) d lt ∙ same)));
    long = subst (λ l. AreLongOf l longer) (sym more) is_long;
  }
    where
      more : all_placed (places ++ at ∷ []) (edges ++ e ∷ []) ≡ all_placed places edges ++ placed at e ∷ []
      more = placed_more places edges at e are.same

  pub are_more_as : (at : ℕ) (e : Edge) (longer held : List HeldEdge) (ps : List ℕ) (es : List Edge) → all_placed places edges ≡ held → ps ≡ places ++ at ∷ [] → es ≡ edges ++ e ∷ [] →
      GoFrom held at → at ≤ LAST_PLACE → 0 < e.length → e.length ≤ LONGEST_EDGE → (¬ Contains held (placed at e)) → AreLongOf (held ++ placed at e ∷ []) longer → ArePlaced ps es longer
  are_more_as at e longer held ps es is p q from here some up new is_long =
      subst (λ l. ArePlaced l es longer) (sym p) (subst (λ l. ArePlaced (places ++ at ∷ []) l longer) (sym q)
      (are_more at e longer (subst (λ h. GoFrom h at) (sym is) from) here some up (subst (λ h. ¬ Contains h (placed at e)) (sym is) new) (subst (λ h. AreLongOf (h ++ placed at e ∷ []) longer) (sym is) is_long)))

-- the edges that span more than one place, where one more is pushed
module _ (edges long : List HeldEdge) (are : AreLongOf edges long) (e : HeldEdge) where
  pub long_more : e.from + 1 < e.to → AreLongOf (edges ++ e ∷ []) (long ++ e ∷ [])
  long_more longer x = (
    λ h. ⊎_elim (λ l. (let (c, lt) = (are x).0 l in (Contains-append_left edges (e ∷ []) x c, lt))) (λ s. (subst (Contains (edges ++ e ∷ [])) s (Contains-push edges e), subst (λ (z : HeldEdge). z.from + 1 < z.to) s longer)) (Contains-push_cases long e x h),
    λ (h, lt). ⊎_elim (λ c. Contains-append_left long (e ∷ []) x ((are x).1 (c, lt))) (λ s. subst (Contains (long ++ e ∷ [])) s (Contains-push long e)) (Contains-push_cases edges e x h),
  )

  pub long_same : e.to ≤ e.from + 1 → AreLongOf (edges ++ e ∷ []) long
  long_same short x = (
    λ l. (let (c, lt) = (are x).0 l in (Contains-append_left edges (e ∷ []) x c, lt)),
    λ (h, lt). ⊎_elim (λ c. (are x).1 (c, lt)) (λ s. (let t : x.from + 1 < x.to = lt in let u : x.to ≤ x.from + 1 = subst (λ (z : HeldEdge). z.to ≤ z.from + 1) s short in absurd (omega arith))) (Contains-push_cases edges e x h),
  )
