-- Steps between numbers are those between slots, so their least cycle is the grammar's.
use Rattle.std.proofs.Common.{arith, ◌≡◌, ◌≢◌, ◌⊎◌, ◌↔◌, inl, inr, ℕ, zero, suc, ◌+◌, ◌-◌, ◌<◌, ◌≤◌, Bool, true, false, nat_lt, ◌==◌, if◌then◌else◌, Option, Some, List, [], ◌∷◌, length, All, Contains, slice_index, slice_index_or, slice_get, refl, sym, ◌∙◌, ap, subst}
use Rattle.std.proofs.lemmas.Bool.{eqb-true, eqb-false, cases_lt}
use Rattle.std.proofs.lemmas.List.{get_or_default, get_or-map, length-map}
use Rattle.std.specs.declared.cmp.Ordering.{Ordering}
use Rattle.std.specs.declared.cmp.Ordering.TheVariants.{Less, Equal, Greater}
use Rattle.std.specs.Ordering.{ordering_then, nat_cmp}
use Rattle.std.specs.Cmp.Lexicographic.{slice_cmp}
use Rattle.std.proofs.lemmas.Option.{slice_get-get_or}
use Rattle.grammar_model.specs.Grammar.{WrittenRule, Plain, Sequence, Grammar, Slot, slot_of, rule_at, lhs_of, child_slot, slot_count, EachChildSlot}
use Rattle.grammar_model.specs.Analysis.{IsStar, IsNullableIn, IsNullable, EachNeeded, IsProductiveIn, IsProductive, IsAccessible, IsAlone, LeadsTo}
use Rattle.grammar_model.specs.Cycles.{IsWalk, IsCycle, IsLeastCycle, HasHeights, slot_cmp, cycle_cmp}
use Rattle.grammar_core.specs.Written.{IsWritten}
use Rattle.jagged.specs.Rows.{row_at}
use Rattle.slot_analysis.specs.Slots.{number, end_of, IsNumbering, IsNumbered, needed_of}
use Rattle.slot_analysis.specs.Steps.{head_of}
use Rattle.grammar_check.specs.Linked.{IsLinkTo, IsFloored}
use Rattle.grammar_check.specs.Links.{Step, Walks, AreFloors, AreRows, IsLeastPath}
use Rattle.grammar_check.specs.Settled.{NoneBelow, Rises}
use Rattle.grammar_check.specs.Message.{AreOf}
use Rattle.grammar_check.specs.Told.{slot_with, slots_with, IsHomed, AreSlotsAt}
use Rattle.horn_clauses.proofs.Search.{same_or_other}
use Rattle.grammar_core.proofs.Known.{lhs_known}
use Rattle.slot_analysis.proofs.Known.{head_numbered, child_numbered}
use Rattle.slot_analysis.proofs.Rounds.{bases_rise, one_symbol}
use Rattle.slot_analysis.proofs.Reaching.{numbered_small, same_slot}
use Rattle.slot_analysis.proofs.Beyond.{accessible_numbered}
use Rattle.slot_analysis.proofs.StepLemmas.{all_needed, needed_small, head_small}
use Rattle.grammar_check.proofs.Layering.{step_known}
use Rattle.grammar_check.proofs.Settling.{contained_or}
use Rattle.grammar_model.proofs.Productive.{item_first}

needs : (P : Slot → Type 0) (rule : WrittenRule) → ((k : ℕ) → k < slot_count rule → P (child_slot rule k)) → EachNeeded P rule
needs P (Plain r) all = all
needs P (Sequence r) all = subst (λ s. P (slot_of s)) (item_first r.item r.separator) (all 0 (omega arith))

nullable_productive : (n : ℕ) (g : Grammar) (slot : Slot) → IsNullableIn n g slot → IsProductiveIn n g slot
nullable_productive zero g slot h = absurd h
nullable_productive (suc n) g slot (i, lt, fits, h) = inr (i, lt, fits, by (λ slot. nullable_productive n g slot) h)
  where
    by : ((slot : Slot) → IsNullableIn n g slot → IsProductiveIn n g slot) → IsStar (rule_at g i) ⊎ EachChildSlot (IsNullableIn n g) (rule_at g i) → IsStar (rule_at g i) ⊎ EachNeeded (IsProductiveIn n g) (rule_at g i)
    by rec (inl star) = inl star
    by rec (inr each) = inr (needs (IsProductiveIn n g) (rule_at g i) (λ k kl. rec (child_slot (rule_at g i) k) (each k kl)))

-- a rule's part that can stand alone, by its place
abbrev AloneAt : Grammar → WrittenRule → Slot → Type 0
AloneAt g rule t = (k : ℕ) × (k < needed_of rule) × (child_slot rule k ≡ t) × ((j : ℕ) → j < needed_of rule → j ≢ k → IsNullable g (child_slot rule j))

alone_at : (g : Grammar) (rule : WrittenRule) (t : Slot) → IsAlone g t rule → AloneAt g rule t
alone_at g (Plain r) t h = h
alone_at g (Sequence r) t h = (0, omega arith, ap slot_of (item_first r.item r.separator) ∙ h, λ j jl ne. absurd (omega (arith, jl, ne)))

at_alone : (g : Grammar) (rule : WrittenRule) (k : ℕ) → k < needed_of rule → ((j : ℕ) → j < needed_of rule → j ≢ k → IsNullable g (child_slot rule j)) → IsAlone g (child_slot rule k) rule
at_alone g (Plain r) k kl all = (k, kl, refl, all)
at_alone g (Sequence r) k kl all = let z : 0 ≡ k = omega (arith, kl) in ap slot_of (sym (item_first r.item r.separator)) ∙ ap (child_slot (Sequence r)) z

less_greater : (Path Ordering Less Greater) ⊎ (Path Ordering Equal Greater) → ⊥
less_greater (inl e) = absurd (cc)
less_greater (inr e) = absurd (cc)

pub nat_cases : (a b : ℕ) → ((nat_cmp a b ≡ Less) × (a < b)) ⊎ (((nat_cmp a b ≡ Equal) × (a ≡ b)) ⊎ ((nat_cmp a b ≡ Greater) × (b < a)))
nat_cases a b = by (nat_lt a b) (a == b) refl refl
  where
    yes : (a b : ℕ) → nat_lt a b ≡ true → a < b
    yes a b e = grind (arith, e)

    other : (a b : ℕ) → nat_lt a b ≡ false → b ≤ a
    other a b e = grind (arith, e)

    by : (c d : Bool) → nat_lt a b ≡ c → (a == b) ≡ d →
        (((if c then Less else (if d then Equal else Greater)) ≡ Less) × (a < b)) ⊎ ((((if c then Less else (if d then Equal else Greater)) ≡ Equal) × (a ≡ b)) ⊎ (((if c then Less else (if d then Equal else Greater)) ≡ Greater) × (b < a)))
    by true d e f = inl (refl, yes a b e)
    by false true e f = inr (inl (refl, eqb-true a b f))
    by false false e f = inr (inr (refl, (let le = other a b e in let ne = eqb-false a b f in omega arith)))

some_same : (s t : Slot) → Path (Option Slot) (Some s) (Some t) → s ≡ t
some_same s t e = cc

closed_at : (y : Slot) (ys : List Slot) (k : ℕ) → Path (Option Slot) (Some y) (slice_get (y ∷ ys) (suc k)) → k < length ys → y ≡ slice_index_or (y ∷ ys) (suc k) y
closed_at y ys k e lt = some_same y (slice_index_or (y ∷ ys) (suc k) y) (e ∙ slice_get-get_or (y ∷ ys) (suc k) y (omega arith))

walk_of : (g : Grammar) (ss : List Slot) → ((i : ℕ) → i < length ss → IsAccessible g (slice_index_or ss i (slot_of 0)) × IsProductive g (slice_index_or ss i (slot_of 0))) →
    ((i : ℕ) → suc i < length ss → LeadsTo g (slice_index_or ss i (slot_of 0)) (slice_index_or ss (suc i) (slot_of 0))) → IsWalk g ss
walk_of g [] e l = tt
walk_of g (s ∷ []) e l = e 0 (omega arith)
walk_of g (s ∷ t ∷ rest) e l = ((e 0 (omega arith)).0, (e 0 (omega arith)).1, l 0 (omega arith), walk_of g (t ∷ rest) (λ i lt. e (suc i) (omega arith)) (λ i lt. l (suc i) (omega arith)))

module _ (g : Grammar) (w : IsWritten g) where
  -- what a slot in use leads to is in use where it is productive
  leads_accessible : (s t : Slot) → IsAccessible g s → LeadsTo g s t → IsProductive g t → IsAccessible g t
  leads_accessible s t (m, acc) (i, il, fits, alone) prod =
      let (k, kl, is, others) = alone_at g (rule_at g i) t alone in
      let live = (all_needed g (rule_at g i)).0 (λ j jl. elim (same_or_other j k) [
        | inl same ↦ subst (λ j. IsProductive g (child_slot (rule_at g i) j)) (sym same) (subst (IsProductive g) (sym is) prod)
        | inr ne ↦ let (n, h) = others j jl ne in (n, nullable_productive n g (child_slot (rule_at g i) j) h)
      ]) in
      (suc m, (s, acc, prod, (i, il, fits, (live, (k, needed_small (rule_at g i) k kl, is)))))

  module _ (bases : List ℕ) (n : IsNumbering g bases) where
    -- the symbol of a number
    pub symbol_of : (m x : ℕ) → m ≤ length g.names → x < slice_index bases m → (s : ℕ) × (s < m) × (slice_index bases s ≤ x) × (x < end_of bases s)
    symbol_of zero x le lt = absurd (omega (arith, n.begin, lt))
    symbol_of (suc m) x le lt = elim (cases_lt x (slice_index bases m)) [
      | inl low ↦ let (s, a, b, d) = symbol_of m x (omega arith) low in (s, omega (arith, a), b, d)
      | inr up ↦ (m, omega arith, up, lt)
    ]

    module _ (floors : List ℕ) (fl : IsFloored g bases floors) where
      pub floors_are : AreFloors floors
      floors_are = record {
        below = λ h lt.
            let (s, a, b, d) = symbol_of (length g.names) h (omega arith) (omega (arith, lt, fl.sized)) in
            let e = fl.floor s h a b d in omega (arith, e, b);
        same = λ h x lt low up.
            let (s, a, b, d) = symbol_of (length g.names) h (omega arith) (omega (arith, lt, fl.sized)) in
            let e = fl.floor s h a b d in
            fl.floor s x a (omega (arith, e, low)) (omega (arith, up, d)) ∙ sym e;
      }

      module _ (rows : List (List ℕ)) (links : (t h : ℕ) → Contains (row_at rows t) h ↔ IsLinkTo g bases (length g.rules) t h) where
        pub rows_are : AreRows (slice_index bases (length g.names)) rows
        rows_are t h there = let (i, il, (k, kl, l)) = (links t h).0 there in let s = head_small g bases i w n il in omega (arith, l.1, s)

        step_from : (s t : Slot) → IsNumbered g bases s → LeadsTo g s t → IsAccessible g t → IsProductive g t → Step rows floors (number bases s) (number bases t)
        step_from s t num (i, il, (e, fits), alone) acc prod =
            let (k, kl, is, others) = alone_at g (rule_at g i) t alone in
            let head = head_of g bases i in
            let within = head_numbered g bases i w n il in
            let eb = ap (slice_index bases) e in
            let f = fl.floor (lhs_of (rule_at g i)) head (lhs_known g i w il) (omega arith) within in (
              head,
              (links (number bases t) head).1 (i, il, (k, kl, (ap (number bases) (sym is), refl, subst (IsAccessible g) (sym is) acc, subst (IsProductive g) (sym is) prod, others))),
              (omega (arith, f, eb), omega (arith, eb, fits)),
            )

        step_to : (s : Slot) (y : ℕ) → IsNumbered g bases s → Step rows floors (number bases s) y → (t : Slot) × (number bases t ≡ y) × IsNumbered g bases t × LeadsTo g s t × IsAccessible g t × IsProductive g t
        step_to s y (known, small) (h, row, (low, up)) =
            let (i, il, (k, kl, l)) = (links y h).0 row in
            let within = head_numbered g bases i w n il in
            let f = fl.floor (lhs_of (rule_at g i)) (head_of g bases i) (lhs_known g i w il) (omega arith) within in
            let fh : slice_index floors h ≡ slice_index bases (lhs_of (rule_at g i)) = ap (slice_index floors) l.1 ∙ f in
            let same : lhs_of (rule_at g i) ≡ s.symbol = one_symbol g bases (lhs_of (rule_at g i)) s.symbol (number bases s) n (lhs_known g i w il) known (omega (arith, low, fh)) (omega (arith, up, l.1, within)) (omega arith) small in
            let eb = ap (slice_index bases) same in (
              child_slot (rule_at g i) k,
              sym l.0,
              child_numbered g bases i k w n il (needed_small (rule_at g i) k kl),
              (i, il, (same, omega (arith, up, l.1, eb)), at_alone g (rule_at g i) k kl l.4),
              l.2,
              l.3,
            )

        -- THE LEAST CYCLE

        walk_head : (s : Slot) (rest : List Slot) → IsWalk g (s ∷ rest) → IsAccessible g s × IsProductive g s
        walk_head s [] h = h
        walk_head s (t ∷ rest) h = (h.0, h.1)

        walk_numbered : (s : Slot) (rest : List Slot) → IsWalk g (s ∷ rest) → IsNumbered g bases s
        walk_numbered s rest h = let ((m, a), p) = walk_head s rest h in accessible_numbered m g bases s w n a

        -- a walk through slots is one through their numbers
        walks : (s : Slot) (rest : List Slot) → IsWalk g (s ∷ rest) → Walks rows floors (number bases (slice_index_or (s ∷ rest) (length rest) s)) (length rest) (number bases s)
        walks s [] h = refl
        walks s (t ∷ rest) h =
            let (acc, prod) = walk_head t rest h.3 in
            let w' = walks t rest h.3 in
            let same : slice_index_or (t ∷ rest) (length rest) t ≡ slice_index_or (s ∷ t ∷ rest) (suc (length rest)) s = get_or_default (t ∷ rest) (length rest) t s (omega arith) in
            (number bases t, step_from s t (walk_numbered s (t ∷ rest) h) h.2 acc prod, subst (λ e. Walks rows floors (number bases e) (length rest) (number bases t)) same w')

        -- how slots compare, and their numbers
        slot_cases : (s t : Slot) → IsNumbered g bases s → IsNumbered g bases t → ((slot_cmp s t ≡ Less) × (number bases s < number bases t)) ⊎ (((slot_cmp s t ≡ Equal) × (s ≡ t)) ⊎ ((slot_cmp s t ≡ Greater) × (number bases t < number bases s)))
        slot_cases s t ns nt = elim (nat_cases s.symbol t.symbol) [
          | inl (e, lt) ↦ inl (ap (λ o. ordering_then o (nat_cmp s.level t.level)) e, let r = bases_rise g bases s.symbol t.symbol n lt (let k = nt.0 in omega (arith, k)) in omega (arith, r, ns.1))
          | inr (inr (e, gt)) ↦ inr (inr (ap (λ o. ordering_then o (nat_cmp s.level t.level)) e, let r = bases_rise g bases t.symbol s.symbol n gt (let k = ns.0 in omega (arith, k)) in omega (arith, r, nt.1)))
          | inr (inl (e, same)) ↦
              let eb = ap (slice_index bases) same in
              elim (nat_cases s.level t.level) [
                | inl (f, lt) ↦ inl (ap (λ o. ordering_then o (nat_cmp s.level t.level)) e ∙ f, omega (arith, eb, lt))
                | inr (inr (f, gt)) ↦ inr (inr (ap (λ o. ordering_then o (nat_cmp s.level t.level)) e ∙ f, omega (arith, eb, gt)))
                | inr (inl (f, level)) ↦ inr (inl (ap (λ o. ordering_then o (nat_cmp s.level t.level)) e ∙ f, λ i. record { symbol = same i; level = level i }))
              ]
        ]

        module _ (to m : ℕ) (path : List ℕ) (p : IsLeastPath rows floors to m path) where
          -- slot by slot no other walk of the same length is before the path
          lex : (i : ℕ) (xs : List Slot) (y : Slot) (ys : List Slot) → ((j : ℕ) → j < length xs → IsNumbered g bases (slice_index_or xs j (slot_of 0)) × (number bases (slice_index_or xs j (slot_of 0)) ≡ slice_index path (suc i + j))) →
              length xs ≡ length ys → i + length xs ≡ m → IsWalk g (y ∷ ys) → number bases (slice_index_or (y ∷ ys) (length ys) y) ≡ to → number bases y ≡ slice_index path i → slice_cmp slot_cmp xs ys ≡ Greater → ⊥
          lex i [] y [] all len end walk last here e = less_greater (inr e)
          lex i [] y (z ∷ ys) all len end walk last here e = omega arith
          lex i (x ∷ xs) y [] all len end walk last here e = omega arith
          lex i (x ∷ xs) y (z ∷ ys) all len end walk last here e =
              let nz = walk_numbered z ys walk.3 in
              let (acc, prod) = walk_head z ys walk.3 in
              let at : number bases x ≡ slice_index path (suc i) = (all 0 (omega arith)).1 ∙ ap (slice_index path) (let q : suc i + 0 ≡ suc i = omega arith in q) in
              let same : slice_index_or (z ∷ ys) (length ys) z ≡ slice_index_or (y ∷ z ∷ ys) (suc (length ys)) y = get_or_default (z ∷ ys) (length ys) z y (omega arith) in
              let end' : number bases (slice_index_or (z ∷ ys) (length ys) z) ≡ to = ap (number bases) same ∙ last in
              elim (slot_cases x z (all 0 (omega arith)).0 nz) [
                | inl (f, lt) ↦ less_greater (inl (sym (ap (λ o. ordering_then o (slice_cmp slot_cmp xs ys)) f) ∙ e))
                | inr (inr (f, gt)) ↦
                    let s = subst (λ q. Step rows floors q (number bases z)) here (step_from y z (walk_numbered y (z ∷ ys) walk) walk.2 acc prod) in
                    let wz = subst (λ q. Walks rows floors q (length ys) (number bases z)) end' (walks z ys walk.3) in
                    let wz' = subst (λ q. Walks rows floors to q (number bases z)) (let q : length ys ≡ m - suc i = omega (arith, end, len) in q) wz in
                    let h = p.least i (number bases z) (omega (arith, end)) s wz' in
                    omega (arith, h, at, gt)
                | inr (inl (f, is)) ↦
                    lex (suc i) xs z ys (λ j jl. let r = all (suc j) (omega (arith, jl)) in (r.0, r.1 ∙ ap (slice_index path) (let q : suc i + suc j ≡ suc (suc i) + j = omega arith in q)))
                    (omega (arith, len)) (omega (arith, end)) walk.3 end' (sym (ap (number bases) is) ∙ at) (sym (ap (λ o. ordering_then o (slice_cmp slot_cmp xs ys)) f) ∙ e)
              ]

          module _ (below : NoneBelow rows floors to) where
            not_greater : (ss others : List Slot) → ((j : ℕ) → j < length ss → IsNumbered g bases (slice_index_or ss j (slot_of 0)) × (number bases (slice_index_or ss j (slot_of 0)) ≡ slice_index path j)) → length ss ≡ suc m → IsCycle g others → cycle_cmp ss others ≡ Greater → ⊥
            not_greater [] others all len c e = omega arith
            not_greater (x ∷ xs) [] all len c e = let l = c.long in omega arith
            not_greater (x ∷ xs) (y ∷ []) all len c e = let l = c.long in omega arith
            not_greater (x ∷ xs) (y ∷ z ∷ ys) all len c e =
                let ny = walk_numbered y (z ∷ ys) c.walk in
                let at : number bases x ≡ to = (all 0 (omega arith)).1 ∙ p.first in
                let back : y ≡ slice_index_or (y ∷ z ∷ ys) (suc (length ys)) y = closed_at y (z ∷ ys) (length ys) (c.closed ∙ ap (slice_get (y ∷ z ∷ ys)) (let q : length (y ∷ z ∷ ys) - 1 ≡ suc (length ys) = omega arith in q)) (omega arith) in
                let walk = subst (λ q. Walks rows floors (number bases q) (suc (length ys)) (number bases y)) (sym back) (walks y (z ∷ ys) c.walk) in
                elim (slot_cases x y (all 0 (omega arith)).0 ny) [
                  | inl (f, lt) ↦ less_greater (inl (sym (ap (λ o. ordering_then (ordering_then o Equal) (ordering_then (nat_cmp (length (x ∷ xs)) (length (y ∷ z ∷ ys))) (slice_cmp slot_cmp (x ∷ xs) (y ∷ z ∷ ys)))) f) ∙ e))
                  | inr (inr (f, gt)) ↦ below (number bases y) (length ys) (omega (arith, gt, at)) walk
                  | inr (inl (f, is)) ↦
                      let home : number bases y ≡ to = sym (ap (number bases) is) ∙ at in
                      let e' = sym (ap (λ o. ordering_then (ordering_then o Equal) (ordering_then (nat_cmp (length (x ∷ xs)) (length (y ∷ z ∷ ys))) (slice_cmp slot_cmp (x ∷ xs) (y ∷ z ∷ ys)))) f) ∙ e in
                      elim (nat_cases (length (x ∷ xs)) (length (y ∷ z ∷ ys))) [
                        | inl (q, lt) ↦ less_greater (inl (sym (ap (λ o. ordering_then o (slice_cmp slot_cmp (x ∷ xs) (y ∷ z ∷ ys))) q) ∙ e'))
                        | inr (inr (q, gt)) ↦ let h = p.shortest (length ys) (subst (λ q. Walks rows floors q (suc (length ys)) q) home walk) in omega (arith, h, gt, len)
                        | inr (inl (q, long)) ↦
                            lex 0 xs y (z ∷ ys) (λ j jl. let r = all (suc j) (omega (arith, jl)) in (r.0, r.1 ∙ ap (slice_index path) (let v : suc j ≡ suc 0 + j = omega arith in v)))
                            (omega (arith, long)) (omega (arith, len)) c.walk (ap (number bases) (sym back) ∙ home) (home ∙ sym p.first)
                            (sym (ap (λ o. ordering_then o (slice_cmp slot_cmp xs (z ∷ ys))) f) ∙ (sym (ap (λ o. ordering_then o (slice_cmp slot_cmp (x ∷ xs) (y ∷ z ∷ ys))) q) ∙ e'))
                      ]
                ]

            module _ (ss : List Slot) (size : length ss ≡ suc m) (all : (j : ℕ) → j < length ss → IsNumbered g bases (slice_index_or ss j (slot_of 0)) × (number bases (slice_index_or ss j (slot_of 0)) ≡ slice_index path j)) where
              abbrev at : ℕ → Slot
              at j = slice_index_or ss j (slot_of 0)

              linked : (i : ℕ) → suc i < length ss → LeadsTo g (at i) (at (suc i)) × (IsAccessible g (at (suc i)) × IsProductive g (at (suc i)))
              linked i lt =
                  let (num, here) = all i (omega arith) in
                  let (num', next) = all (suc i) lt in
                  let s = subst (λ q. Step rows floors q (slice_index path (suc i))) (sym here) (p.steps i (omega (arith, size))) in
                  let (t, e, nt, leads, acc, prod) = step_to (at i) (slice_index path (suc i)) num s in
                  let is = same_slot g bases n t (at (suc i)) nt num' (e ∙ sym next) in
                  (subst (LeadsTo g (at i)) is leads, (subst (IsAccessible g) is acc, subst (IsProductive g) is prod))

              round : at 0 ≡ at m
              round = same_slot g bases n (at 0) (at m) (all 0 (omega (arith, size))).0 (all m (omega (arith, size))).0 ((all 0 (omega (arith, size))).1 ∙ (p.first ∙ (sym p.last ∙ sym (all m (omega (arith, size))).1)))

              entered : (i : ℕ) → i < length ss → IsAccessible g (at i) × IsProductive g (at i)
              entered zero lt =
                  let z : suc (m - 1) ≡ m = (let s = p.some in omega arith) in
                  subst (λ s. IsAccessible g s × IsProductive g s) (sym round) (subst (λ m. IsAccessible g (at m) × IsProductive g (at m)) z (linked (m - 1) (omega (arith, z, size))).1)
              entered (suc i) lt = (linked i lt).1

              pub least_is : IsLeastCycle g ss
              least_is = record {
                cycle = record {
                  long = let s = p.some in omega (arith, size);
                  walk = walk_of g ss entered (λ i lt. (linked i lt).0);
                  closed = slice_get-get_or ss 0 (slot_of 0) (omega (arith, size)) ∙ (ap Some round ∙ (sym (slice_get-get_or ss m (slot_of 0) (omega (arith, size))) ∙ ap (slice_get ss) (let z : m ≡ length ss - 1 = omega (arith, size) in z)));
                };
                least = λ others c e. not_greater ss others all size c e;
              }

        -- HEIGHTS

        module _ (keys : List ℕ) (exact : (slot : Slot) → IsNumbered g bases slot → Contains keys (number bases slot) ↔ IsProductive g slot) (sized : length rows ≡ slice_index bases (length g.names)) (r : Rises rows floors) where
          abbrev high : (x : ℕ) → Contains keys x ⊎ (Contains keys x → ⊥) → ℕ
          high x (inl h) = suc (r.top - r.height x)
          high x (inr none) = 0

          falls : (s t : Slot) → IsAccessible g s → IsProductive g s → LeadsTo g s t → (ds : Contains keys (number bases s) ⊎ (Contains keys (number bases s) → ⊥)) (dt : Contains keys (number bases t) ⊎ (Contains keys (number bases t) → ⊥)) →
              high (number bases t) dt < high (number bases s) ds
          falls s t acc prod leads (inr none) dt = let (m, a) = acc in absurd (none ((exact s (accessible_numbered m g bases s w n a)).1 prod))
          falls s t acc prod leads (inl hs) (inr none) = omega arith
          falls s t acc prod leads (inl hs) (inl ht) =
              let (m, a) = acc in
              let (i, il, fits, alone) = leads in
              let (k, kl, is, others) = alone_at g (rule_at g i) t alone in
              let num = subst (IsNumbered g bases) is (child_numbered g bases i k w n il (needed_small (rule_at g i) k kl)) in
              let pt = (exact t num).0 ht in
              let small : number bases t < length rows = (let z = numbered_small g bases n t num in omega (arith, z, sized)) in
              let up = r.rises (number bases s) (number bases t) small (step_from s t (accessible_numbered m g bases s w n a) leads (leads_accessible s t acc leads pt) pt) in
              let top = r.below (number bases t) small in
              omega (arith, up, top)

          pub heights : HasHeights g
          heights = record {
            height = λ s. high (number bases s) (contained_or keys (number bases s));
            falls = λ s t acc prod leads. falls s t acc prod leads (contained_or keys (number bases s)) (contained_or keys (number bases t));
          }

pub homed : (g : Grammar) (w : IsWritten g) (bases : List ℕ) (n : IsNumbering g bases) (homes : List ℕ) → IsHomed g bases homes → (x : ℕ) → x < slice_index bases (length g.names) →
    (slice_index homes x < length g.names) × (slice_index bases (slice_index homes x) ≤ x) × (x < end_of bases (slice_index homes x))
homed g w bases n homes h x lt =
    let (s, a, b, d) = symbol_of g w bases n (length g.names) x (omega arith) lt in
    let e = sym (h.home s x a b d) in
    subst (λ s. (s < length g.names) × (slice_index bases s ≤ x) × (x < end_of bases s)) e (a, b, d)

abbrev pub AreLinks : Grammar → List ℕ → List (List ℕ) → Type 0
AreLinks g bases rows = (t h : ℕ) → Contains (row_at rows t) h ↔ IsLinkTo g bases (length g.rules) t h

module _ (g : Grammar) (w : IsWritten g) (bases : List ℕ) (n : IsNumbering g bases) (floors : List ℕ) (fl : IsFloored g bases floors) (rows : List (List ℕ)) (links : AreLinks g bases rows) where
  pub path_known : (to m : ℕ) (path : List ℕ) → IsLeastPath rows floors to m path → All (λ x. x < slice_index bases (length g.names)) path
  path_known to m path p k d lt = subst (λ x. x < slice_index bases (length g.names)) (get_or_default path k 0 d lt) (by (cases_lt k m))
    where
      inner : (i : ℕ) → i < m → slice_index path i < slice_index bases (length g.names)
      inner i il = let s = step_known rows floors (slice_index path i) (slice_index path (suc i)) (subst (λ n. AreRows n rows) (sym fl.sized) (rows_are g w bases n floors fl rows links)) (p.steps i il) in omega (arith, s, fl.sized)

      by : (k < m) ⊎ (m ≤ k) → slice_index path k < slice_index bases (length g.names)
      by (inl less) = inner k less
      by (inr up) =
          let is : k ≡ m = omega (arith, up, lt, p.sized) in
          let z = inner 0 p.some in
          omega (arith, z, ap (slice_index path) is, p.last, p.first)

  pub cycle_told : (to m : ℕ) (path : List ℕ) (pairs : List (ℕ × ℕ)) → IsLeastPath rows floors to m path → NoneBelow rows floors to → AreSlotsAt g bases path pairs → IsLeastCycle g (slots_with pairs)
  cycle_told to m path pairs p below told =
      let long = length-map pairs slot_with in
      least_is g w bases n floors fl rows links to m path p below (slots_with pairs) (omega (arith, long, told.sized, p.sized))
      (λ j jl.
      let jl' : j < length pairs = omega (arith, long, jl) in
      let jp : j < length path = omega (arith, jl', told.sized) in
      subst (λ s. IsNumbered g bases s × (number bases s ≡ slice_index path j)) (sym (get_or-map slot_with pairs j (0, 0) (slot_of 0) jl')) (told.numbered j jp, told.same j jp))

pub slots_of_grammar : (g : Grammar) (bases path : List ℕ) (pairs : List (ℕ × ℕ)) → AreSlotsAt g bases path pairs → AreOf g pairs
slots_of_grammar g bases path pairs told k d lt = subst (λ (p : ℕ × ℕ). p.0 < length g.names) (get_or_default pairs k (0, 0) d lt) (told.numbered k (omega (arith, lt, told.sized))).0
