-- A grammar without gaps between its levels has the same cycles, each slot under the place of its level.
use Rattle.std.proofs.Common.{arith, ◌≡◌, inl, inr, ℕ, zero, suc, ◌-◌, ◌<◌, List, [], ◌∷◌, length, map, take, slice_get, All, Contains, refl, sym, ◌∙◌, ap, subst, Option, Some, None, option_map}
use Rattle.std.proofs.lemmas.Option.{slice_get-map}
use Rattle.std.proofs.Common.{get_or}
use Rattle.std.proofs.lemmas.List.{length-map, get_or-map}
use Rattle.std.specs.declared.cmp.Ordering.TheVariants.{Equal}
use Rattle.std.specs.Ordering.{ordering_then, nat_cmp}
use Rattle.std.specs.Cmp.Lexicographic.{slice_cmp}
use Rattle.grammar_model.specs.Grammar.{WrittenRule, Plain, Sequence, Grammar, Slot, slot_of, rule_at, child_slot, slot_count, sequence_symbol}
use Rattle.grammar_model.specs.Analysis.{IsNullable, IsProductive, IsAccessible, IsAlone, LeadsTo}
use Rattle.grammar_model.specs.Cycles.{IsWalk, slot_cmp, cycle_cmp, IsLeastCycle, HasHeights}
use Rattle.grammar_core.specs.Written.{IsWritten}
use Rattle.jagged.specs.Rows.{row_at}
use Rattle.slot_analysis.specs.Packed.{place, packed_rule, packed, packed_slot, unpacked_slot, Occurs, IsLevelTable}
use Rattle.grammar_check.specs.Told.{slot_with, slots_with, IsPlaced, unpacked_pair}
use Rattle.grammar_check.specs.Message.{AreOf}
use Rattle.grammar_check.proofs.SlotCycles.{nat_cases}
use Rattle.slot_analysis.proofs.Counting.{below_order, held}
use Rattle.slot_analysis.proofs.Packing.{first_is}
use Rattle.slot_analysis.proofs.Transfer.{p, child_is, child_occurs, some_to, some_from, nullable_same, productive_same, accessible_to, accessible_from_in, accessible_occurs, same_slots}

nat_cmp_is : (a b m n : ℕ) → (a < b → m < n) → (a ≡ b → m ≡ n) → (b < a → n < m) → nat_cmp m n ≡ nat_cmp a b
nat_cmp_is a b m n up same down = elim (nat_cases a b) [
  | inl (e, lt) ↦ elim (nat_cases m n) [
    | inl (f, lt') ↦ f ∙ sym e
    | inr (inl (f, eq)) ↦ let h = up lt in absurd (omega (arith, h, eq))
    | inr (inr (f, gt)) ↦ let h = up lt in absurd (omega (arith, h, gt))
  ]
  | inr (inl (e, eq)) ↦ elim (nat_cases m n) [
    | inl (f, lt') ↦ let h = same eq in absurd (omega (arith, h, lt'))
    | inr (inl (f, eq')) ↦ f ∙ sym e
    | inr (inr (f, gt)) ↦ let h = same eq in absurd (omega (arith, h, gt))
  ]
  | inr (inr (e, gt)) ↦ elim (nat_cases m n) [
    | inl (f, lt') ↦ let h = down gt in absurd (omega (arith, h, lt'))
    | inr (inl (f, eq)) ↦ let h = down gt in absurd (omega (arith, h, eq))
    | inr (inr (f, gt')) ↦ f ∙ sym e
  ]
]

pub mapped_ends : (f : Slot → Slot) (ss : List Slot) → slice_get ss 0 ≡ slice_get ss (length ss - 1) → slice_get (map f ss) 0 ≡ slice_get (map f ss) (length (map f ss) - 1)
mapped_ends f ss e =
    let size : length ss - 1 ≡ length (map f ss) - 1 = ap (λ n. n - 1) (sym (length-map ss f)) in
    slice_get-map f ss 0 ∙ (ap (option_map f) e ∙ (sym (slice_get-map f ss (length ss - 1)) ∙ ap (slice_get (map f ss)) size))

module _ (g : Grammar) (rows : List (List ℕ)) (w : IsWritten g) (t : IsLevelTable g rows) where
  abbrev at : Slot → Slot
  at slot = packed_slot rows slot

  abbrev un : Slot → Slot
  un slot = unpacked_slot rows slot

  un_at : (slot : Slot) → Occurs rows slot → un (at slot) ≡ slot
  un_at slot c i = record { symbol = slot.symbol; level = (held (row_at rows slot.symbol) (t.rising slot.symbol) slot.level c).1 i }

  -- an accessible slot of the packed grammar, unpacked
  unpacked : (other : Slot) → IsAccessible (p g rows w t) other → IsAccessible g (un other) × (Occurs rows (un other) × (at (un other) ≡ other))
  unpacked other (n, h) =
      let (slot, acc, e) = accessible_from_in g rows w t n other h in
      let c = accessible_occurs g rows w t n slot acc in
      let is : un other ≡ slot = ap un (sym e) ∙ un_at slot c in
      (subst (IsAccessible g) (sym is) (n, acc), (subst (Occurs rows) (sym is) c, ap at is ∙ e))

  leads_to : (s u : Slot) → LeadsTo g s u → LeadsTo (p g rows w t) (at s) (at u)
  leads_to s u h = some_to g rows w t s (IsAlone g u) (IsAlone (p g rows w t) (at u)) (λ i lt. alone (rule_at g i) (λ k kl. child_is g rows w t i k lt kl)) h
    where
      alone : (rule : WrittenRule) → ((k : ℕ) → k < slot_count rule → child_slot (packed_rule rows rule) k ≡ at (child_slot rule k)) → IsAlone g u rule → IsAlone (p g rows w t) (at u) (packed_rule rows rule)
      alone (Plain r) children (k, kl, e, others) =
          (k, kl, children k kl ∙ ap at e, λ j jl ne. subst (IsNullable (p g rows w t)) (sym (children j jl)) ((nullable_same g rows w t (child_slot (Plain r) j)).1 (others j jl ne)))
      alone (Sequence r) children e = sym (first_is rows r.item) ∙ ap at e

  leads_from : (s u : Slot) → Occurs rows u → LeadsTo (p g rows w t) (at s) (at u) → LeadsTo g s u
  leads_from s u c h = some_from g rows w t s (IsAlone g u) (IsAlone (p g rows w t) (at u))
      (λ i lt. alone (rule_at g i) (λ k kl. child_is g rows w t i k lt kl) (λ k kl. child_occurs g rows w t i k lt kl)) h
    where
      alone : (rule : WrittenRule) → ((k : ℕ) → k < slot_count rule → child_slot (packed_rule rows rule) k ≡ at (child_slot rule k)) → ((k : ℕ) → k < slot_count rule → Occurs rows (child_slot rule k)) →
          IsAlone (p g rows w t) (at u) (packed_rule rows rule) → IsAlone g u rule
      alone (Plain r) children occurs (k, kl, e, others) =
          (k, kl, same_slots g rows w t (child_slot (Plain r) k) u (occurs k kl) c (sym (children k kl) ∙ e), λ j jl ne. (nullable_same g rows w t (child_slot (Plain r) j)).0 (subst (IsNullable (p g rows w t)) (children j jl) (others j jl ne)))
      alone (Sequence r) children occurs e =
          let item : child_slot (Sequence r) 0 ≡ slot_of r.item = ap slot_of (item_first r.item r.separator) in
          same_slots g rows w t (slot_of r.item) u (subst (Occurs rows) item (occurs 0 (omega arith))) c (first_is rows r.item ∙ e)
        where
          item_first : (item : ℕ) (separator : Option ℕ) → sequence_symbol item separator 0 ≡ item
          item_first item None = refl
          item_first item (Some separator) = refl

  walk_to : (ss : List Slot) → IsWalk g ss → IsWalk (p g rows w t) (map at ss)
  walk_to [] h = h
  walk_to (s ∷ []) (acc, prod) = (accessible_to g rows w t s acc, (productive_same g rows w t s).1 prod)
  walk_to (s ∷ u ∷ rest) (acc, prod, leads, walk) = (accessible_to g rows w t s acc, (productive_same g rows w t s).1 prod, leads_to s u leads, walk_to (u ∷ rest) walk)

  walk_first : (h : Grammar) (s : Slot) (rest : List Slot) → IsWalk h (s ∷ rest) → IsAccessible h s
  walk_first h s [] walk = walk.0
  walk_first h s (u ∷ rest) walk = walk.0

  productive_un : (s : Slot) → at (un s) ≡ s → IsProductive (p g rows w t) s → IsProductive g (un s)
  productive_un s e prod = (productive_same g rows w t (un s)).0 (subst (IsProductive (p g rows w t)) (sym e) prod)

  walk_from : (ss : List Slot) → IsWalk (p g rows w t) ss → IsWalk g (map un ss)
  walk_from [] h = h
  walk_from (s ∷ []) (acc, prod) = let (acc', (c, e)) = unpacked s acc in (acc', productive_un s e prod)
  walk_from (s ∷ u ∷ rest) (acc, prod, leads, walk) =
      let (acc', (c, e)) = unpacked s acc in
      let (acc2, (c2, e2)) = unpacked u (walk_first (p g rows w t) u rest walk) in
      let leads' : LeadsTo (p g rows w t) (at (un s)) (at (un u)) = subst (λ x. LeadsTo (p g rows w t) x (at (un u))) (sym e) (subst (LeadsTo (p g rows w t) s) (sym e2) leads) in
      (acc', productive_un s e prod, leads_from (un s) (un u) c2 leads', walk_from (u ∷ rest) walk)

  abbrev AllOccur : List Slot → Type 0
  AllOccur ss = All (Occurs rows) ss

  one_more : (s : Slot) (ss : List Slot) → Occurs rows s → AllOccur ss → AllOccur (s ∷ ss)
  one_more s ss c all zero d lt = c
  one_more s ss c all (suc k) d lt = all k d (omega (arith, lt))

  walk_occurs : (ss : List Slot) → IsWalk g ss → AllOccur ss
  walk_occurs [] h = λ k d lt. absurd (omega (arith, lt))
  walk_occurs (s ∷ []) (acc, prod) = one_more s [] (accessible_occurs g rows w t acc.0 s acc.1) (λ k d lt. absurd (omega (arith, lt)))
  walk_occurs (s ∷ u ∷ rest) (acc, prod, leads, walk) = one_more s (u ∷ rest) (accessible_occurs g rows w t acc.0 s acc.1) (walk_occurs (u ∷ rest) walk)

  packs_back : (ss : List Slot) → IsWalk (p g rows w t) ss → map at (map un ss) ≡ ss
  packs_back [] h = refl
  packs_back (s ∷ []) (acc, prod) = ap (λ x. x ∷ []) (unpacked s acc).1.1
  packs_back (s ∷ u ∷ rest) (acc, prod, leads, walk) = ap (λ x. x ∷ map at (map un (u ∷ rest))) (unpacked s acc).1.1 ∙ ap (λ l. s ∷ l) (packs_back (u ∷ rest) walk)

  slot_cmp_is : (s u : Slot) → Occurs rows s → Occurs rows u → slot_cmp (at s) (at u) ≡ slot_cmp s u
  slot_cmp_is s u cs cu = elim (nat_cases s.symbol u.symbol) [
    | inl (e, lt) ↦ ap (λ o. ordering_then o (nat_cmp (at s).level (at u).level)) e ∙ sym (ap (λ o. ordering_then o (nat_cmp s.level u.level)) e)
    | inr (inr (e, gt)) ↦ ap (λ o. ordering_then o (nat_cmp (at s).level (at u).level)) e ∙ sym (ap (λ o. ordering_then o (nat_cmp s.level u.level)) e)
    | inr (inl (e, same)) ↦ ap (ordering_then (nat_cmp s.symbol u.symbol)) (levels same)
  ]
    where
      levels : s.symbol ≡ u.symbol → nat_cmp (at s).level (at u).level ≡ nat_cmp s.level u.level
      levels same =
          let cu' : Contains (row_at rows s.symbol) u.level = subst (λ x. Contains (row_at rows x) u.level) (sym same) cu in
          let there : place rows u.symbol u.level ≡ place rows s.symbol u.level = ap (λ x. place rows x u.level) (sym same) in
          nat_cmp_is s.level u.level (at s).level (at u).level
          (λ lt. (let h = below_order (row_at rows s.symbol) (t.rising s.symbol) s.level u.level cs lt in omega (arith, h, there)))
          (λ eq. ap (place rows s.symbol) eq ∙ sym there)
          (λ gt. (let h = below_order (row_at rows s.symbol) (t.rising s.symbol) u.level s.level cu' gt in omega (arith, h, there)))

  slices_cmp_is : (ss us : List Slot) → AllOccur ss → AllOccur us → slice_cmp slot_cmp (map at ss) (map at us) ≡ slice_cmp slot_cmp ss us
  slices_cmp_is [] [] a b = refl
  slices_cmp_is [] (u ∷ us) a b = refl
  slices_cmp_is (s ∷ ss) [] a b = refl
  slices_cmp_is (s ∷ ss) (u ∷ us) a b =
      ap (λ o. ordering_then o (slice_cmp slot_cmp (map at ss) (map at us))) (slot_cmp_is s u (a 0 s (omega arith)) (b 0 u (omega arith)))
      ∙ ap (ordering_then (slot_cmp s u)) (slices_cmp_is ss us (λ k d lt. a (suc k) d (omega (arith, lt))) (λ k d lt. b (suc k) d (omega (arith, lt))))

  cycle_cmp_is : (ss us : List Slot) → AllOccur ss → AllOccur us → cycle_cmp (map at ss) (map at us) ≡ cycle_cmp ss us
  cycle_cmp_is ss us a b =
      ap (λ o. ordering_then o (ordering_then (nat_cmp (length (map at ss)) (length (map at us))) (slice_cmp slot_cmp (map at ss) (map at us)))) (firsts ss us a b)
      ∙ (ap (λ o. ordering_then (slice_cmp slot_cmp (take 1 ss) (take 1 us)) (ordering_then o (slice_cmp slot_cmp (map at ss) (map at us)))) (ap (λ n. nat_cmp n (length (map at us))) (length-map ss at) ∙ ap (nat_cmp (length ss)) (length-map us at))
      ∙ ap (λ o. ordering_then (slice_cmp slot_cmp (take 1 ss) (take 1 us)) (ordering_then (nat_cmp (length ss) (length us)) o)) (slices_cmp_is ss us a b))
    where
      firsts : (ss us : List Slot) → AllOccur ss → AllOccur us → slice_cmp slot_cmp (take 1 (map at ss)) (take 1 (map at us)) ≡ slice_cmp slot_cmp (take 1 ss) (take 1 us)
      firsts [] [] a b = refl
      firsts [] (u ∷ us) a b = refl
      firsts (s ∷ ss) [] a b = refl
      firsts (s ∷ ss) (u ∷ us) a b = ap (λ o. ordering_then o Equal) (slot_cmp_is s u (a 0 s (omega arith)) (b 0 u (omega arith)))

  pub least_cycle : (ss : List Slot) → IsLeastCycle (p g rows w t) ss → IsLeastCycle g (map un ss)
  least_cycle ss h =
      let size = length-map ss un in
      let walk = walk_from ss h.cycle.walk in
      record {
        cycle = record {
          long = let l = h.cycle.long in omega (arith, l, size);
          walk = walk;
          closed = mapped_ends un ss h.cycle.closed;
        };
        least = λ others c greater. h.least (map at others) (record {
          long = let l = c.long in let n = length-map others at in omega (arith, l, n);
          walk = walk_to others c.walk;
          closed = mapped_ends at others c.closed;
        }) (ap (λ l. cycle_cmp l (map at others)) (sym (packs_back ss h.cycle.walk)) ∙ (cycle_cmp_is (map un ss) others (walk_occurs (map un ss) walk) (walk_occurs others c.walk) ∙ greater));
      }

  pub has_heights : HasHeights (p g rows w t) → HasHeights g
  has_heights h = record {
    height = λ s. h.height (at s);
    falls = λ s u acc prod leads. h.falls (at s) (at u) (accessible_to g rows w t s acc) ((productive_same g rows w t s).1 prod) (leads_to s u leads);
  }

  all_with : (s : Slot) (ss : List Slot) → IsAccessible (p g rows w t) s → All (IsAccessible (p g rows w t)) ss → All (IsAccessible (p g rows w t)) (s ∷ ss)
  all_with s ss c all zero d lt = c
  all_with s ss c all (suc k) d lt = all k d (omega (arith, lt))

  -- the slots of a walk are accessible, so each has a level
  walk_accessible : (ss : List Slot) → IsWalk (p g rows w t) ss → All (IsAccessible (p g rows w t)) ss
  walk_accessible [] h = λ k d lt. absurd (omega (arith, lt))
  walk_accessible (s ∷ []) (acc, prod) = all_with s [] acc (λ k d lt. absurd (omega (arith, lt)))
  walk_accessible (s ∷ u ∷ rest) (acc, prod, leads, walk) = all_with s (u ∷ rest) acc (walk_accessible (u ∷ rest) walk)

  placed : (s : Slot) → IsAccessible (p g rows w t) s → s.level < length (row_at rows s.symbol)
  placed s acc =
      let (acc', (c, e)) = unpacked s acc in
      let h = held (row_at rows s.symbol) (t.rising s.symbol) (un s).level c in
      subst (λ l. l < length (row_at rows s.symbol)) (ap (λ x. x.level) e) h.0

  pub all_placed : (pairs : List (ℕ × ℕ)) → IsLeastCycle (p g rows w t) (slots_with pairs) → All (IsPlaced rows) pairs
  all_placed pairs h k d lt =
      let n = length-map pairs slot_with in
      let acc = walk_accessible (slots_with pairs) h.cycle.walk k (slot_with d) (omega (arith, lt, n)) in
      placed (slot_with (get_or pairs k d)) (subst (IsAccessible (p g rows w t)) (get_or-map slot_with pairs k d (slot_with d) lt) acc)

  same_pairs : (pairs : List (ℕ × ℕ)) → slots_with (map (unpacked_pair rows) pairs) ≡ map un (slots_with pairs)
  same_pairs [] = refl
  same_pairs (q ∷ qs) = ap (λ l. un (slot_with q) ∷ l) (same_pairs qs)

  pub least_unpacked : (pairs : List (ℕ × ℕ)) → IsLeastCycle (p g rows w t) (slots_with pairs) → IsLeastCycle g (slots_with (map (unpacked_pair rows) pairs))
  least_unpacked pairs h = subst (IsLeastCycle g) (sym (same_pairs pairs)) (least_cycle (slots_with pairs) h)

pub known_unpacked : (g : Grammar) (rows : List (List ℕ)) (pairs : List (ℕ × ℕ)) → AreOf (packed rows g) pairs → AreOf g (map (unpacked_pair rows) pairs)
known_unpacked g rows pairs h k d lt =
    let kl : k < length pairs = omega (arith, lt, length-map pairs (unpacked_pair rows)) in
    subst (λ (q : ℕ × ℕ). q.0 < length g.names) (sym (get_or-map (unpacked_pair rows) pairs k d d kl)) (h k d kl)
