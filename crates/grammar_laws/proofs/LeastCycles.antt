-- A grammar has a least cycle, or heights that fall along each step.
use Rattle.std.proofs.Common.{arith, ◌≡◌, ◌≢◌, ◌⊎◌, inl, inr, ℕ, zero, suc, ◌-◌, ◌<◌, ◌≤◌, List, [], ◌∷◌, length, Option, Some, slice_get, refl, sym, ◌∙◌, ap, subst}
use Rattle.std.specs.declared.cmp.Ordering.{Ordering}
use Rattle.std.specs.declared.cmp.Ordering.TheVariants.{Less, Equal, Greater}
use Rattle.std.specs.Ordering.{ordering_then, nat_cmp}
use Rattle.std.specs.Cmp.Lexicographic.{slice_cmp}
use Rattle.finite_sets.proofs.Clauses.{nat_cmp-Equal, then_equal}
use Rattle.grammar_model.specs.Grammar.{WrittenRule, Plain, Sequence, Grammar, Slot, slot_of, rule_at, child_slot}
use Rattle.grammar_model.specs.Analysis.{IsNullable, IsProductive, IsAccessible, IsAlone, LeadsTo}
use Rattle.grammar_model.specs.Cycles.{IsWalk, IsCycle, IsCyclic, IsLeastCycle, HasHeights, slot_cmp, cycle_cmp}
use Rattle.grammar_check.proofs.SlotCycles.{nat_cases}
use Rattle.finite_sets.specs.Decided.{IsDecided}
use Rattle.finite_sets.proofs.Deciding.{both, moved, negated, implied, equal, some_below, each_below, least_of}
use Rattle.finite_sets.proofs.Members.{Among}
use Rattle.finite_sets.proofs.Choosing.{least_among}
use Rattle.finite_sets.specs.Walks.{Walk, Leads}
use Rattle.finite_sets.proofs.Walks.{walk_decided, leads_decided, height, falls}
use Rattle.grammar_laws.proofs.Slots.{same_slot, slots, some_rule}
use Rattle.grammar_laws.proofs.Tests.{nullable_decided, productive_decided, accessible_decided, accessible_member}

-- ---- orders

less_greater : Path Ordering Less Greater → ⊥
less_greater e = absurd (cc)

equal_greater : Path Ordering Equal Greater → ⊥
equal_greater e = absurd (cc)

then_low : (a b : Ordering) → a ≢ Greater → (a ≡ Equal → b ≢ Greater) → ordering_then a b ≢ Greater
then_low Less b h k e = less_greater e
then_low Equal b h k e = k refl e
then_low Greater b h k e = h refl

nat_low : (a b : ℕ) → a ≤ b → nat_cmp a b ≢ Greater
nat_low a b le e = elim (nat_cases a b) [
  | inl (f, lt) ↦ less_greater (sym f ∙ e)
  | inr (inl (f, same)) ↦ equal_greater (sym f ∙ e)
  | inr (inr (f, gt)) ↦ absurd (omega (arith, le, gt))
]

less_equal : Path Ordering Less Equal → ⊥
less_equal e = absurd (cc)

greater_equal : Path Ordering Greater Equal → ⊥
greater_equal e = absurd (cc)

-- by symbol and then by level
abbrev Low : Slot → Slot → Type 0
Low s t = (s.symbol < t.symbol) ⊎ ((s.symbol ≡ t.symbol) × (s.level ≤ t.level))

low_total : (s t : Slot) → Low s t ⊎ Low t s
low_total s t = go s.symbol s.level t.symbol t.level
  where
    go : (a b c d : ℕ) → ((a < c) ⊎ ((a ≡ c) × (b ≤ d))) ⊎ ((c < a) ⊎ ((c ≡ a) × (d ≤ b)))
    go a b c d = grind arith

low_through : (s t u : Slot) → Low s t → Low t u → Low s u
low_through s t u (inl a) (inl b) = inl (omega (arith, a, b))
low_through s t u (inl a) (inr b) = let e = b.0 in inl (omega (arith, a, e))
low_through s t u (inr a) (inl b) = let e = a.0 in inl (omega (arith, e, b))
low_through s t u (inr a) (inr b) = inr (a.0 ∙ b.0, (let x = a.1 in let y = b.1 in omega (arith, x, y)))

low_slots : (s t : Slot) → Low s t → slot_cmp s t ≢ Greater
low_slots s t (inl lt) = then_low (nat_cmp s.symbol t.symbol) (nat_cmp s.level t.level) (nat_low s.symbol t.symbol (omega arith)) (λ e. let same = nat_cmp-Equal s.symbol t.symbol e in absurd (omega (arith, same, lt)))
low_slots s t (inr (e, le)) = then_low (nat_cmp s.symbol t.symbol) (nat_cmp s.level t.level) (nat_low s.symbol t.symbol (omega (arith, e))) (λ f. nat_low s.level t.level le)

slots_same : (s t : Slot) → slot_cmp s t ≡ Equal → s ≡ t
slots_same s t e =
    let (a, b) = then_equal (nat_cmp s.symbol t.symbol) (nat_cmp s.level t.level) e in
    let p = nat_cmp-Equal s.symbol t.symbol a in
    let q = nat_cmp-Equal s.level t.level b in
    λ i. record { symbol = p i; level = q i }

-- ---- steps

module _ (g : Grammar) where
  abbrev pub IsUsed : Slot → Type 0
  IsUsed s = IsAccessible g s × IsProductive g s

  used_decided : (s : Slot) → IsDecided (IsUsed s)
  used_decided s = both (accessible_decided g s) (productive_decided g s)

  alone_decided : (slot : Slot) (rule : WrittenRule) → IsDecided (IsAlone g slot rule)
  alone_decided slot (Plain r) =
      moved (λ (k, kl, (e, all)). (k, kl, e, all)) (λ (k, kl, e, all). (k, kl, (e, all)))
      (some_below (λ k. (child_slot (Plain r) k ≡ slot) × ((j : ℕ) → j < length r.rhs → j ≢ k → IsNullable g (child_slot (Plain r) j))) (length r.rhs)
      (λ k kl. both (same_slot (child_slot (Plain r) k) slot)
      (each_below (λ j. j ≢ k → IsNullable g (child_slot (Plain r) j)) (length r.rhs) (λ j jl. implied (negated (equal j k)) (nullable_decided g (child_slot (Plain r) j))))))
  alone_decided slot (Sequence r) = same_slot (slot_of r.item) slot

  leads_to_decided : (s t : Slot) → IsDecided (LeadsTo g s t)
  leads_to_decided s t = some_rule g s (IsAlone g t) (λ i lt. alone_decided t (rule_at g i))

  -- between slots that can stand in a tree
  abbrev Step : Slot → Slot → Type 0
  Step s t = IsUsed s × LeadsTo g s t × IsUsed t

  step_decided : (s t : Slot) → IsDecided (Step s t)
  step_decided s t = moved (λ (a, (b, c)). (a, b, c)) (λ (a, b, c). (a, (b, c))) (both (used_decided s) (both (leads_to_decided s t) (used_decided t)))

  within : (s t : Slot) → Step s t → Among t (slots g)
  within s t (a, b, c) = accessible_member g t c.0

  -- the slots that a walk comes to, one after another
  abbrev Path' : ℕ → Slot → Slot → List Slot → Type 0
  Path' zero x y [] = x ≡ y
  Path' zero x y (z ∷ zs) = ⊥
  Path' (suc n) x y [] = ⊥
  Path' (suc n) x y (z ∷ zs) = Step x z × Path' n z y zs

  path_walk : (n : ℕ) (x y : Slot) (zs : List Slot) → Path' n x y zs → Walk Step n x y
  path_walk zero x y [] p = p
  path_walk zero x y (z ∷ zs) p = absurd p
  path_walk (suc n) x y [] p = absurd p
  path_walk (suc n) x y (z ∷ zs) (s, p) = (z, s, path_walk n z y zs p)

  path_long : (n : ℕ) (x y : Slot) (zs : List Slot) → Path' n x y zs → length zs ≡ n
  path_long zero x y [] p = refl
  path_long zero x y (z ∷ zs) p = absurd p
  path_long (suc n) x y [] p = absurd p
  path_long (suc n) x y (z ∷ zs) (s, p) = let e = path_long n z y zs p in omega (arith, e)

  path_last : (n : ℕ) (x y : Slot) (zs : List Slot) → Path' n x y zs → slice_get (x ∷ zs) n ≡ Some y
  path_last zero x y [] p = ap Some p
  path_last zero x y (z ∷ zs) p = absurd p
  path_last (suc n) x y [] p = absurd p
  path_last (suc n) x y (z ∷ zs) (s, p) = path_last n z y zs p

  path_is : (n : ℕ) (x y : Slot) (zs : List Slot) → IsUsed x → Path' n x y zs → IsWalk g (x ∷ zs)
  path_is zero x y [] u p = u
  path_is zero x y (z ∷ zs) u p = absurd p
  path_is (suc n) x y [] u p = absurd p
  path_is (suc n) x y (z ∷ zs) u ((a, b, c), p) = (u.0, u.1, b, path_is n z y zs c p)

  abbrev end_of : Slot → List Slot → Slot
  end_of x [] = x
  end_of x (z ∷ zs) = end_of z zs

  end_got : (x : Slot) (zs : List Slot) → slice_get (x ∷ zs) (length zs) ≡ Some (end_of x zs)
  end_got x [] = refl
  end_got x (z ∷ zs) = end_got z zs

  walk_used : (x : Slot) (zs : List Slot) → IsWalk g (x ∷ zs) → IsUsed x
  walk_used x [] w = w
  walk_used x (z ∷ zs) w = (w.0, w.1)

  is_path : (x : Slot) (zs : List Slot) → IsWalk g (x ∷ zs) → Path' (length zs) x (end_of x zs) zs
  is_path x [] w = refl
  is_path x (z ∷ zs) (a, b, c, w) = (((a, b), c, walk_used z zs w), is_path z zs w)

  some_same : (s t : Slot) → Path (Option Slot) (Some s) (Some t) → s ≡ t
  some_same s t e = cc

  -- a cycle is a slot and the path from it to itself
  abbrev Parts : List Slot → Type 0
  Parts xs = (x : Slot) × (n : ℕ) × (zs : List Slot) × (xs ≡ x ∷ zs) × Path' (suc n) x x zs

  cycle_parts : (xs : List Slot) → IsCycle g xs → Parts xs
  cycle_parts [] c = let h = c.long in absurd (omega (arith, h))
  cycle_parts (x ∷ []) c = let h = c.long in absurd (omega (arith, h))
  cycle_parts (x ∷ z ∷ zs) c =
      let n : length (x ∷ z ∷ zs) - 1 ≡ suc (length zs) = omega arith in
      let e = some_same (end_of z zs) x (sym (end_got z zs) ∙ sym (c.closed ∙ ap (slice_get (x ∷ z ∷ zs)) n)) in
      (x, length zs, z ∷ zs, refl, subst (λ y. Path' (suc (length zs)) x y (z ∷ zs)) e (is_path x (z ∷ zs) c.walk))

  parts_cycle : (n : ℕ) (x : Slot) (zs : List Slot) → Path' (suc n) x x zs → IsCycle g (x ∷ zs)
  parts_cycle n x [] p = absurd p
  parts_cycle n x (z ∷ zs) p =
      let long = path_long (suc n) x x (z ∷ zs) p in
      let e : suc n ≡ length (x ∷ z ∷ zs) - 1 = omega (arith, long) in
      record {
        long = omega arith;
        walk = path_is (suc n) x x (z ∷ zs) p.0.0 p;
        closed = sym (path_last (suc n) x x (z ∷ zs) p) ∙ ap (slice_get (x ∷ z ∷ zs)) e;
      }

  -- ---- the least path

  abbrev IsLeastPath : ℕ → Slot → Slot → List Slot → Type 0
  IsLeastPath n x y zs = Path' n x y zs × ((ws : List Slot) → Path' n x y ws → slice_cmp slot_cmp zs ws ≢ Greater)

  abbrev Next : ℕ → Slot → Slot → Slot → Type 0
  Next n x y t = Step x t × Walk Step n t y

  least_path : (n : ℕ) (x y : Slot) → Walk Step n x y → (zs : List Slot) × IsLeastPath n x y zs
  least_path zero x y e = ([], (e, least))
    where
      least : (ws : List Slot) → Path' zero x y ws → slice_cmp slot_cmp [] ws ≢ Greater
      least [] p f = equal_greater f
      least (w ∷ ws) p f = absurd p
  least_path (suc n) x y (z, s, w) = go (λ t v. least_path n t y v) (least_among Low low_total low_through (Next n x y) (slots g) (λ t m. both (step_decided x t) (walk_decided Step (slots g) same_slot step_decided within n t y)))
    where
      go : ((t : Slot) → Walk Step n t y → (zs : List Slot) × IsLeastPath n t y zs) →
          ((t : Slot) × (Among t (slots g) × Next n x y t × ((u : Slot) → Among u (slots g) → Next n x y u → Low t u))) ⊎ ((t : Slot) → Among t (slots g) → Next n x y t → ⊥) →
          (zs : List Slot) × IsLeastPath (suc n) x y zs
      go rec (inr none) = absurd (none z (within x z s) (s, w))
      go rec (inl (t, (m, (st, v), low))) = by (rec t v)
        where
          by : (zs : List Slot) × IsLeastPath n t y zs → (zs : List Slot) × IsLeastPath (suc n) x y zs
          by (zs, (p, least)) = (t ∷ zs, ((st, p), least'))
            where
              least' : (ws : List Slot) → Path' (suc n) x y ws → slice_cmp slot_cmp (t ∷ zs) ws ≢ Greater
              least' [] q = absurd q
              least' (u ∷ ws) (su, q) =
                  then_low (slot_cmp t u) (slice_cmp slot_cmp zs ws) (low_slots t u (low u (within x u su) (su, path_walk n u y ws q)))
                  (λ e. least ws (subst (λ r. Path' n r y ws) (sym (slots_same t u e)) q))

  -- ---- the least cycle

  abbrev Returns : Slot → Type 0
  Returns s = Leads Step s s

  returns_decided : (s : Slot) → IsDecided (Returns s)
  returns_decided s = leads_decided Step (slots g) same_slot step_decided within s s

  returns_member : (s : Slot) → Returns s → Among s (slots g)
  returns_member s (n, (z, (a, b, c), w)) = accessible_member g s a.0

  least_from : (s : Slot) → Returns s → ((t : Slot) → Returns t → Low s t) → (xs : List Slot) × IsLeastCycle g xs
  least_from s (m, w) low = go (least_of (λ n. Walk Step (suc n) s s) (λ n. walk_decided Step (slots g) same_slot step_decided within (suc n) s s) m w)
    where
      go : (n : ℕ) × Walk Step (suc n) s s × ((j : ℕ) → j < n → Walk Step (suc j) s s → ⊥) → (xs : List Slot) × IsLeastCycle g xs
      go (n, v, short) = by (least_path (suc n) s s v)
        where
          by : (zs : List Slot) × IsLeastPath (suc n) s s zs → (xs : List Slot) × IsLeastCycle g xs
          by (zs, (p, least)) = (s ∷ zs, record { cycle = parts_cycle n s zs p; least = λ others c. beside others (cycle_parts others c) })
            where
              at : (t : Slot) (k : ℕ) (ws : List Slot) → Path' (suc k) t t ws → cycle_cmp (s ∷ zs) (t ∷ ws) ≢ Greater
              at t k ws q =
                  then_low (slice_cmp slot_cmp (s ∷ []) (t ∷ [])) (ordering_then (nat_cmp (length (s ∷ zs)) (length (t ∷ ws))) (slice_cmp slot_cmp (s ∷ zs) (t ∷ ws)))
                  (then_low (slot_cmp s t) Equal (low_slots s t (low t (k, path_walk (suc k) t t ws q))) (λ e. equal_greater))
                  (λ e.
                  let same : s ≡ t = slots_same s t (then_equal (slot_cmp s t) Equal e).0 in
                  let q' : Path' (suc k) s s ws = subst (λ r. Path' (suc k) r r ws) (sym same) q in
                  let le : n ≤ k = elim (or_less n k) [ inl le ↦ le | inr lt ↦ absurd (short k lt (path_walk (suc k) s s ws q')) ] in
                  let a = path_long (suc n) s s zs p in
                  let b = path_long (suc k) s s ws q' in
                  then_low (nat_cmp (length (s ∷ zs)) (length (t ∷ ws))) (slice_cmp slot_cmp (s ∷ zs) (t ∷ ws)) (nat_low (length (s ∷ zs)) (length (t ∷ ws)) (omega (arith, le, a, b)))
                  (λ f.
                  let long = nat_cmp-Equal (length (s ∷ zs)) (length (t ∷ ws)) f in
                  let kn : k ≡ n = omega (arith, long, a, b) in
                  then_low (slot_cmp s t) (slice_cmp slot_cmp zs ws) (low_slots s t (low t (k, path_walk (suc k) t t ws q)))
                  (λ _. least ws (subst (λ r. Path' (suc r) s s ws) kn q'))))
                where
                  or_less : (n k : ℕ) → (n ≤ k) ⊎ (k < n)
                  or_less n k = grind arith

              beside : (others : List Slot) → Parts others → cycle_cmp (s ∷ zs) others ≢ Greater
              beside others (t, k, ws, e, q) = subst (λ os. cycle_cmp (s ∷ zs) os ≢ Greater) (sym e) (at t k ws q)

  -- ---- heights

  module _ (none : (s : Slot) → Returns s → ⊥) where
    abbrev tall : (s : Slot) → IsDecided (IsUsed s) → ℕ
    tall s (inl u) = suc (height Step (slots g) same_slot step_decided within none s)
    tall s (inr u) = 0

    lower : (s t : Slot) → IsUsed s → LeadsTo g s t → (a : IsDecided (IsUsed s)) (b : IsDecided (IsUsed t)) → tall t b < tall s a
    lower s t u l (inr other) b = absurd (other u)
    lower s t u l (inl v) (inr other) = omega arith
    lower s t u l (inl v) (inl w) = let h = falls Step (slots g) same_slot step_decided within none s t (u, l, w) in omega (arith, h)

    heights : HasHeights g
    heights = record {
      height = λ s. tall s (used_decided s);
      falls = λ s t a p l. lower s t (a, p) l (used_decided s) (used_decided t);
    }

  pub acyclic_or : ((xs : List Slot) × IsLeastCycle g xs) ⊎ ((IsCyclic g → ⊥) × HasHeights g)
  acyclic_or = elim (least_among Low low_total low_through Returns (slots g) (λ s m. returns_decided s)) [
    | inl (s, (m, r, low)) ↦ inl (least_from s r (λ t q. low t (returns_member t q) q))
    | inr none ↦
        let clear : (s : Slot) → Returns s → ⊥ = λ s r. none s (returns_member s r) r in
        inr ((λ (xs, c). let (x, n, zs, e, p) = cycle_parts xs c in clear x (n, path_walk (suc n) x x zs p)), heights clear)
  ]
