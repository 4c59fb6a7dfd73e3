-- The least number to which there is a step, and walks that always go on by it.
use Rattle.std.proofs.Common.{arith, ◌≡◌, ◌⊎◌, inl, inr, ℕ, suc, ◌+◌, ◌-◌, ◌<◌, ◌≤◌, List, [], ◌∷◌, ◌++◌, length, slice_index, sym, ◌∙◌, ap, subst, length-append}
use Rattle.std.proofs.lemmas.List.{get_or_append_left, get_or_push}
use Rattle.std.proofs.lemmas.Bool.{cases_lt}
use Rattle.grammar_check.specs.Links.{Step, Walks, StepsInto, AreLayers, IsLeastNext, IsLeastPath}
use Rattle.horn_clauses.proofs.Search.{same_or_below}
use Rattle.grammar_check.proofs.Layering.{locate}

pub record Chosen (rows : List (List ℕ)) (floors keys : List ℕ) (from to x best : ℕ) : Type 0 where
  pub least : (i : ℕ) → from ≤ i → i < to → Step rows floors x (slice_index keys i) → best ≤ slice_index keys i
  pub some : (best ≡ 4294967295) ⊎ ((i : ℕ) × (from ≤ i) × (i < to) × (slice_index keys i ≡ best) × Step rows floors x best)

module _ (rows : List (List ℕ)) (floors keys : List ℕ) (from x : ℕ) where
  pub chosen_more : (j t best best' : ℕ) → from ≤ j → slice_index keys j ≡ t → Chosen rows floors keys from j x best →
      ((best' ≡ t) × (t ≤ best) × Step rows floors x t) ⊎ ((best' ≡ best) × (Step rows floors x t → best ≤ t)) → Chosen rows floors keys from (j + 1) x best'
  chosen_more j t best best' le is c (inl (e, less, s)) = record {
    least = λ i a b q. elim (same_or_below i j b) [ inl low ↦ let h = c.least i a low q in omega (arith, h, e, less) | inr same ↦ omega (arith, e, is, ap (slice_index keys) same) ];
    some = inr (j, le, omega arith, is ∙ sym e, subst (Step rows floors x) (sym e) s);
  }
  chosen_more j t best best' le is c (inr (e, none)) = record {
    least = λ i a b q. elim (same_or_below i j b) [
      | inl low ↦ let h = c.least i a low q in omega (arith, h, e)
      | inr same ↦ let z = ap (slice_index keys) same ∙ is in let h = none (subst (Step rows floors x) z q) in omega (arith, e, h, z)
    ];
    some = elim c.some [ inl m ↦ inl (e ∙ m) | inr (i, a, b, k, s) ↦ inr (i, a, omega (arith, b), k ∙ sym e, subst (Step rows floors x) (sym e) s) ];
  }

  pub chosen_next : (to best : ℕ) → ((j : ℕ) → j < to → slice_index keys j < 4294967295) → StepsInto rows floors keys from to x → Chosen rows floors keys from to x best → IsLeastNext rows floors keys from to x best
  chosen_next to best small (j, a, b, s) c = record {
    place = found.0;
    step = found.1;
    least = c.least;
  }
    where
      found : ((i : ℕ) × (from ≤ i) × (i < to) × (slice_index keys i ≡ best)) × Step rows floors x best
      found = elim c.some [
        | inl most ↦ let h = c.least j a b s in let z = small j b in absurd (omega (arith, h, z, most))
        | inr (i, p, q, k, st) ↦ ((i, p, q, k), st)
      ]

-- a path so far
pub record Partway (rows : List (List ℕ)) (floors : List ℕ) (to : ℕ) (keys starts : List ℕ) (layer k : ℕ) (path : List ℕ) (x : ℕ) : Type 0 where
  pub sized : length path ≡ k + 1
  pub first : slice_index path 0 ≡ to
  pub now : slice_index path k ≡ x
  pub here : (j : ℕ) × (slice_index starts (layer - k) ≤ j) × (j < slice_index starts (suc (layer - k))) × (slice_index keys j ≡ x)
  pub steps : (i : ℕ) → i < k → Step rows floors (slice_index path i) (slice_index path (suc i))
  pub least : (i t : ℕ) → i < k → Step rows floors (slice_index path i) t → Walks rows floors to (layer - i) t → slice_index path (suc i) ≤ t

module _ (rows : List (List ℕ)) (floors : List ℕ) (to : ℕ) (keys starts : List ℕ) (l : AreLayers rows floors to keys starts) where
  -- a number that is a step nearer is in the layer before
  pub next_layer : (m j t : ℕ) → suc (suc m) < length starts → slice_index starts (suc m) ≤ j → j < slice_index starts (suc (suc m)) → Step rows floors (slice_index keys j) t → Walks rows floors to (suc m) t →
      (i : ℕ) × (slice_index starts m ≤ i) × (i < slice_index starts (suc m)) × (slice_index keys i ≡ t)
  next_layer m j t lt from below s w =
      let (i, il, e) = l.complete m t (omega arith) w in
      elim (cases_lt i (slice_index starts m)) [
        | inr up ↦ (i, up, il, e)
        | inl low ↦
            let (p, a, b, d) = locate rows floors to keys starts l m i (omega arith) low in
            let walk = l.sound p i (omega (arith, a, lt)) b d in
            let small = l.within (suc (suc m)) lt in
            let h = l.least (suc m) j (suc p) lt from (omega (arith, below, small)) (t, s, subst (Walks rows floors to (suc p)) e walk) in
            absurd (omega (arith, h, a))
      ]

  pub next_some : (m j : ℕ) → suc (suc m) < length starts → slice_index starts (suc m) ≤ j → j < slice_index starts (suc (suc m)) → StepsInto rows floors keys (slice_index starts m) (slice_index starts (suc m)) (slice_index keys j)
  next_some m j lt from below = by (l.sound (suc m) j lt from below)
    where
      by : Walks rows floors to (suc (suc m)) (slice_index keys j) → StepsInto rows floors keys (slice_index starts m) (slice_index starts (suc m)) (slice_index keys j)
      by (t, s, w) = let (i, a, b, e) = next_layer m j t lt from below s w in (i, a, b, subst (Step rows floors (slice_index keys j)) (sym e) s)

  module _ (layer : ℕ) (small : suc layer < length starts) (k : ℕ) (path : List ℕ) (x : ℕ) (p : Partway rows floors to keys starts layer k path x) where
    pub partway_some : k < layer → StepsInto rows floors keys (slice_index starts (layer - k - 1)) (slice_index starts (layer - k)) x
    partway_some lt =
        let (j, a, b, e) = p.here in
        let m : suc (layer - k - 1) ≡ layer - k = omega arith in
        subst (λ n. StepsInto rows floors keys (slice_index starts (layer - k - 1)) (slice_index starts n) x) m
        (subst (StepsInto rows floors keys (slice_index starts (layer - k - 1)) (slice_index starts (suc (layer - k - 1)))) e
        (next_some (layer - k - 1) j (omega arith) (omega (arith, a, ap (slice_index starts) m)) (omega (arith, b, ap (λ n. slice_index starts (suc n)) m))))

    old_at : (t i : ℕ) → i < k + 1 → slice_index (path ++ t ∷ []) i ≡ slice_index path i
    old_at t i lt = get_or_append_left path (t ∷ []) 0 i (omega (arith, p.sized))

    new_at : (t : ℕ) → slice_index (path ++ t ∷ []) (suc k) ≡ t
    new_at t = get_or_push path t 0 (suc k) (omega (arith, p.sized))

    pub partway_more : (t : ℕ) → k < layer → IsLeastNext rows floors keys (slice_index starts (layer - k - 1)) (slice_index starts (layer - k)) x t → Partway rows floors to keys starts layer (k + 1) (path ++ t ∷ []) t
    partway_more t lt n =
        let m : suc (layer - k - 1) ≡ layer - k = omega arith in
        let m' : layer - k - 1 ≡ layer - (k + 1) = omega arith in
        record {
          sized = length-append path (t ∷ []) ∙ (let z : length path + 1 ≡ k + 1 + 1 = omega (arith, p.sized) in z);
          first = old_at t 0 (omega arith) ∙ p.first;
          now = ap (slice_index (path ++ t ∷ [])) (let z : k + 1 ≡ suc k = omega arith in z) ∙ new_at t;
          here =
              let (j, a, b, e) = n.place in
              (j, omega (arith, a, ap (slice_index starts) m'), omega (arith, b, ap (slice_index starts) m, ap (λ q. slice_index starts (suc q)) m'), e);
          steps = λ i b. elim (same_or_below i k b) [
            | inl low ↦ subst (λ y. Step rows floors y (slice_index (path ++ t ∷ []) (suc i))) (sym (old_at t i (omega arith))) (subst (Step rows floors (slice_index path i)) (sym (old_at t (suc i) (omega arith))) (p.steps i low))
            | inr same ↦
                let at : slice_index (path ++ t ∷ []) i ≡ x = old_at t i b ∙ (ap (slice_index path) same ∙ p.now) in
                let end : slice_index (path ++ t ∷ []) (suc i) ≡ t = ap (λ i. slice_index (path ++ t ∷ []) (suc i)) same ∙ new_at t in
                subst (λ y. Step rows floors y (slice_index (path ++ t ∷ []) (suc i))) (sym at) (subst (Step rows floors x) (sym end) n.step)
          ];
          least = λ i u b s w. elim (same_or_below i k b) [
            | inl low ↦ let h = p.least i u low (subst (λ y. Step rows floors y u) (old_at t i b) s) w in omega (arith, h, old_at t (suc i) (omega (arith, low)))
            | inr same ↦
                let at : slice_index (path ++ t ∷ []) i ≡ x = old_at t i b ∙ (ap (slice_index path) same ∙ p.now) in
                let end : slice_index (path ++ t ∷ []) (suc i) ≡ t = ap (λ i. slice_index (path ++ t ∷ []) (suc i)) same ∙ new_at t in
                let (j, ja, jb, je) = p.here in
                let w' = subst (λ q. Walks rows floors to q u) (let z : layer - i ≡ suc (layer - k - 1) = omega (arith, same, lt) in z) w in
                let (g, ga, gb, ge) = next_layer (layer - k - 1) j u (omega arith) (omega (arith, ja, ap (slice_index starts) m)) (omega (arith, jb, ap (λ q. slice_index starts (suc q)) m)) (subst (λ y. Step rows floors y u) (at ∙ sym je) s) w' in
                let h = n.least g ga (omega (arith, gb, ap (slice_index starts) m)) (subst (Step rows floors x) (sym ge) (subst (λ y. Step rows floors y u) at s)) in
                omega (arith, h, ge, end)
          ];
        }

    -- the last step, to the number itself
    pub partway_end : k ≡ layer → ((j : ℕ) × (slice_index starts layer ≤ j) × (j < slice_index starts (suc layer)) × (slice_index keys j ≡ to)) → IsLeastPath rows floors to (suc layer) (path ++ to ∷ [])
    partway_end e home =
        let z : layer - k ≡ 0 = omega (arith, e) in
        let (j, ja, jb, je) = p.here in
        let (t, s, same) = l.sound 0 j (omega arith) (omega (arith, ja, ap (slice_index starts) z)) (omega (arith, jb, ap (λ q. slice_index starts (suc q)) z)) in
        let back : Step rows floors x to = subst (λ y. Step rows floors y to) je (subst (Step rows floors (slice_index keys j)) same s) in
        record {
          some = omega arith;
          sized = length-append path (to ∷ []) ∙ (let z : length path + 1 ≡ suc (suc layer) = omega (arith, p.sized, e) in z);
          first = old_at to 0 (omega arith) ∙ p.first;
          last = ap (slice_index (path ++ to ∷ [])) (ap suc (sym e)) ∙ new_at to;
          steps = λ i b. elim (same_or_below i k (omega (arith, b, e))) [
            | inl low ↦ subst (λ y. Step rows floors y (slice_index (path ++ to ∷ []) (suc i))) (sym (old_at to i (omega (arith, low)))) (subst (Step rows floors (slice_index path i)) (sym (old_at to (suc i) (omega (arith, low)))) (p.steps i low))
            | inr is ↦
                let at : slice_index (path ++ to ∷ []) i ≡ x = old_at to i (omega (arith, is)) ∙ (ap (slice_index path) is ∙ p.now) in
                let end : slice_index (path ++ to ∷ []) (suc i) ≡ to = ap (λ i. slice_index (path ++ to ∷ []) (suc i)) is ∙ new_at to in
                subst (λ y. Step rows floors y (slice_index (path ++ to ∷ []) (suc i))) (sym at) (subst (Step rows floors x) (sym end) back)
          ];
          least = λ i u b s w. elim (same_or_below i k (omega (arith, b, e))) [
            | inl low ↦
                let h = p.least i u low (subst (λ y. Step rows floors y u) (old_at to i (omega (arith, low))) s) (subst (λ q. Walks rows floors to q u) (let z : suc layer - suc i ≡ layer - i = omega arith in z) w) in
                omega (arith, h, old_at to (suc i) (omega (arith, low)))
            | inr is ↦
                let end : slice_index (path ++ to ∷ []) (suc i) ≡ to = ap (λ i. slice_index (path ++ to ∷ []) (suc i)) is ∙ new_at to in
                let stay : u ≡ to = subst (λ q. Walks rows floors to q u) (let z : suc layer - suc i ≡ 0 = omega (arith, is, e) in z) w in
                omega (arith, end, stay)
          ];
          shortest = λ m w. short m w;
        }
      where
        short : (m : ℕ) → Walks rows floors to (suc m) to → suc layer ≤ suc m
        short m w =
            let (j, a, b, is) = home in
            let z = l.within (suc layer) small in
            let h = l.least layer j m small a (omega (arith, b, z)) (subst (Walks rows floors to (suc m)) (sym is) w) in
            omega (arith, h)
