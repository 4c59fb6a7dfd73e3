-- The joins of one item: where the cause may begin.
use Rattle.std.proofs.Common.{◌≡◌, ℕ, zero, suc, ◌<◌, ◌≤◌, ◌+◌, ◌⊎◌, inl, inr, ◌↔◌, Bool, true, false, if◌then◌else◌, eq-eqb, Contains, List, [], ◌∷◌, Some, length, take, get_or, slice_get, refl, sym, ◌∙◌, ap, subst, arith}
use Rattle.std.specs.declared.cmp.Ordering.TheVariants.{Less, Equal, Greater}
use Rattle.std.specs.Ordering.{ordering_then, nat_cmp}
use Rattle.std.specs.Cmp.{nat_cmp_is}
use Rattle.std.proofs.lemmas.Bool.{cases_lt}
use Rattle.std.proofs.lemmas.List.Elements.{Contains-get_or}
use Rattle.std.proofs.lemmas.Option.{slice_get-get_or}
use Rattle.finite_sets.proofs.Clauses.{less_differs}
use Rattle.finite_sets.proofs.Lists.{taken_at, got_item, got_at}
use Rattle.recognizer_model.specs.declared.Item.{Item}
use Rattle.recognizer_model.specs.Flat.{IsNullable}
use Rattle.recognizer_model.specs.Items.{after}
use Rattle.earley_sets.specs.Recognizer.{Recognizer, set_at}
use Rattle.earley_sets.proofs.Membership.{Contains-first, Contains-rest}
use Rattle.forest_model.specs.Forest.{starts_cmp, start_place}
use Rattle.forest_parts.specs.declared.parts.Part.{Part}
use Rattle.forest_parts.specs.declared.groups.Group.{Group}
use Rattle.forest_parts.specs.Parts.{part_at, no_part, IsPart}
use Rattle.forest_parts.specs.Lists.{between}
use Rattle.forest_parts.proofs.Spans.{span_of_group, start_of_group, symbol_of_group}
use Rattle.bocage.specs.declared.joins.Join.{Join}
use Rattle.bocage.specs.declared.walk.Known.{Known}
use Rattle.bocage.specs.declared.walk.Found.{Found}
use Rattle.bocage.specs.Joins.{predecessor_of_join}
use Rattle.grammar_model.specs.declared.Ranking.{Ranking}
use Rattle.grammar_model.specs.Grammar.{Grammar}
use Rattle.forest_parts.specs.Groups.{IsSpan}
use Rattle.forest_parts.proofs.InOrder.{rest_less}
use Rattle.bocage.specs.Walk.{AreGathered, AreJoinsOf, IsNext, BeginsIn, MayBegin, Lists, Knows, is_high}
use Rattle.bocage.proofs.JoinOrder.{no_join}
use Rattle.bocage.proofs.Growing.{lists_then}

place_inside : (high : Bool) (m end : ℕ) → m < end → start_place high m end ≡ 1
place_inside high m end lt = ap (λ b. if b then (if high then 0 else 2) else 1) (less_differs m end lt)

-- the later start is the first
pub starts_less : (high : Bool) (end m n : ℕ) → n < m → m < end → starts_cmp high end m n ≡ Less
starts_less high end m n lt below =
    (λ i. ordering_then (nat_cmp (place_inside high m end below i) (place_inside high n end (omega arith) i)) (nat_cmp n m)) ∙ sym (nat_cmp_is n m Less lt)

-- a part spans something
pub long_part : (k : Known) → Knows k → (p : Part) → Contains k.parts.now p → 0 < p.length
long_part k knows p h = go (knows.gathered.are p h).0
  where
    go : IsPart k.written.now k.ranking k.recce.now p → 0 < p.length
    go (inl (e, i, is)) = let f = knows.is.forward e i in let s = is.start in let t = is.end in omega arith
    go (inr (earleme, item, le, i, is)) = let f = is.spans in let s = is.start in omega arith

-- a group begins before the end
pub group_before : (k : Known) → Knows k → (g : Group) → Contains k.groups.now g → (p : Part) × Contains k.parts.now p × (p.symbol ≡ g.symbol) × (g.start + p.length ≡ k.end) × (g.start < k.end)
group_before k knows g h =
    let is = knows.gathered.groups.are g h in
    let some = is.some in
    let bound = is.within in
    let p = part_at k.parts.now g.first in
    let c = Contains-get_or k.parts.now g.first no_part (omega arith) in
    let (s, l) = is.each g.first (omega arith) some in
    let long = long_part k knows (part_at k.parts.now g.first) c in
    (part_at k.parts.now g.first, c, s, l, omega arith)

-- the parts end here
pub part_ends : (k : Known) → Knows k → (p : Part) → Contains k.parts.now p → (p.end ≡ k.end) × (p.length ≤ k.end)
part_ends k knows p h = let (part, end, bound) = knows.gathered.are p h in (end, omega arith)

abbrev pub no_group : Group
no_group = record { symbol = 0; start = 0; first = 0; past = 0 }

-- the parts of a group
module _ (k : Known) (knows : Knows k) (g : Group) (h : Contains k.groups.now g) where
  pub group_span : IsSpan k.ranking k.parts.now (between g.first g.past k.parts.now)
  group_span = span_of_group k.ranking k.end k.parts.now knows.gathered.sorted knows.gathered.ranks (part_ends k knows) g (knows.gathered.groups.are g h)

  pub group_start : g.start + (part_at (between g.first g.past k.parts.now) 0).length ≡ k.end
  group_start = start_of_group k.ranking k.end k.parts.now knows.gathered.sorted knows.gathered.ranks (part_ends k knows) g (knows.gathered.groups.are g h)

  pub group_symbol : (part_at (between g.first g.past k.parts.now) 0).symbol ≡ g.symbol
  group_symbol = symbol_of_group k.ranking k.end k.parts.now knows.gathered.sorted knows.gathered.ranks (part_ends k knows) g (knows.gathered.groups.are g h)

pub gathered_same : (w : Grammar) (ranking : Ranking) (r : Recognizer) (end least : ℕ) (ps ps' : List Part) (gs gs' : List Group) (js js' : List Join) → AreGathered w ranking r end least ps gs js → ps' ≡ ps → gs' ≡ gs → js' ≡ js → AreGathered w ranking r end least ps' gs' js'
gathered_same w ranking r end least ps ps' gs gs' js js' h p g j =
    subst (λ l. AreGathered w ranking r end least l gs' js') (sym p) (subst (λ l. AreGathered w ranking r end least ps l js') (sym g) (subst (λ l. AreGathered w ranking r end least ps gs l) (sym j) h))

nat_less : (a b : ℕ) → nat_cmp a b ≡ Less → a < b
nat_less a b e = elim (cases_lt a b) [
  | inl lt ↦ lt
  | inr ge ↦ elim (cases_lt b a) [
    | inl gt ↦ let g = nat_cmp_is a b Greater gt in let f : Greater ≡ Less = g ∙ e in absurd (cc)
    | inr le ↦ let q : a ≡ b = omega arith in let g = nat_cmp_is a b Equal q in let f : Equal ≡ Less = g ∙ e in absurd (cc)
  ]
]

take_in : {X : Type 0} (n : ℕ) (xs : List X) (i : ℕ) (x : X) → i < n → slice_get xs i ≡ Some x → Contains (take n xs) x
take_in zero xs i x lt e = absurd (omega arith)
take_in (suc n) [] i x lt e = absurd (cc)
take_in (suc n) (y ∷ ys) zero x lt e = let s : y ≡ x = cc in subst (Contains (y ∷ take n ys)) s (Contains-first y (take n ys))
take_in (suc n) (y ∷ ys) (suc i) x lt e = Contains-rest y (take n ys) x (take_in n ys i x (omega arith) e)

module _ (k : Known) (knows : Knows k) (predecessor : Item) (symbol : ℕ) (next : IsNext k predecessor symbol) (joins : List Join) (are : AreJoinsOf k predecessor joins) where
  -- the group of a join
  pub group_of_join : (j : Join) → Contains joins j → (g : Group) × (slice_get k.groups.now j.group ≡ Some g) × Contains (set_at k.recce.now g.start) predecessor × (g.symbol ≡ symbol)
  group_of_join j h =
      let (a, e) = (are.exact j).0 h in
      let (g, at, (in_set, waits, least)) = (knows.gathered.joins.exact j).0 a in
      let w : after k.recce.now.flat predecessor ≡ Some g.symbol = subst (λ (z : Item). after k.recce.now.flat z ≡ Some g.symbol) e waits in
      let both : Some g.symbol ≡ Some symbol = sym w ∙ next.part in
      let s : g.symbol ≡ symbol = cc in
      (g, at, subst (λ (z : Item). Contains (set_at k.recce.now g.start) z) e in_set, s)

  same_predecessor : (i j : Join) → Contains joins i → Contains joins j → predecessor_of_join i ≡ predecessor_of_join j
  same_predecessor i j a b = ((are.exact i).0 a).1 ∙ sym ((are.exact j).0 b).1

  groups_rise : (i j : ℕ) (d : Join) → i < j → j < length joins → (get_or joins i d).group < (get_or joins j d).group
  groups_rise i j d lt below = nat_less _ _ (
      rest_less (λ (z : Join). z.rule) (λ (z : Join). z.dot) (λ (z : Join). z.origin) (λ (y z : Join). nat_cmp y.group z.group) joins are.sorted
      (λ p q a b. ap (λ (z : Item). z.rule) (same_predecessor p q a b)) (λ p q a b. ap (λ (z : Item). z.dot) (same_predecessor p q a b)) i j d lt below
      (ap (λ (z : Item). z.origin) (same_predecessor (get_or joins i d) (get_or joins j d) (Contains-get_or joins i d (omega arith)) (Contains-get_or joins j d below)))
      )

  -- one join more
  pub lists_next : (n : ℕ) (lt : n < length joins) (g : Group) → slice_get k.groups.now (get_or joins n no_join).group ≡ Some g → (old mid new : Found) → Lists k predecessor symbol (BeginsIn k (take n joins)) old mid →
      Lists k predecessor g.symbol (λ m. m ≡ g.start) mid new → Lists k predecessor symbol (BeginsIn k (take (n + 1) joins)) old new
  lists_next n lt g at old mid new a b =
      let (g', at', in_set, s) = group_of_join (get_or joins n no_join) (Contains-get_or joins n no_join lt) in
      let one : Some g ≡ Some g' = sym at ∙ at' in
      let same : g ≡ g' = cc in
      let symbol_is : g.symbol ≡ symbol = ap (λ (z : Group). z.symbol) same ∙ s in
      lists_then k predecessor symbol (BeginsIn k (take n joins)) (λ m. m ≡ g.start) (BeginsIn k (take (n + 1) joins)) old mid new a (subst (λ x. Lists k predecessor x (λ m. m ≡ g.start) mid new) symbol_is b) (less symbol_is) (λ m h. (to m, from m))
    where
      less : g.symbol ≡ symbol → (m q : ℕ) → BeginsIn k (take n joins) m → q ≡ g.start → starts_cmp (is_high k predecessor) k.end m q ≡ Less
      less symbol_is m q (j, h, i, held, begins) e =
          let (p, before, found) = taken_at n joins j i in
          let (l, same) = got_at joins p j no_join (sym found) in
          let c = got_item joins p j (sym found) in
          let (h', held', in_set, s) = group_of_join j c in
          let one : Some h ≡ Some h' = sym held ∙ held' in
          let q' : h ≡ h' = cc in
          let rise = groups_rise p n no_join before lt in
          let r = ap (λ (z : Join). z.group) same in
          let order = knows.gathered.groups.order j.group (get_or joins n no_join).group h g (omega arith) held at (ap (λ (z : Group). z.symbol) q' ∙ s ∙ sym symbol_is) in
          let (first, there', s', l', early) = group_before k knows h (got_item k.groups.now j.group h (sym held)) in
          starts_less (is_high k predecessor) k.end m q (omega arith) (omega arith)

      to : (m : ℕ) → BeginsIn k (take (n + 1) joins) m → BeginsIn k (take n joins) m ⊎ (m ≡ g.start)
      to m (j, h, i, held, begins) =
          let (p, before, found) = taken_at (n + 1) joins j i in
          elim (cases_lt p n) [
            | inl l ↦ inl (j, h, take_in n joins p j l found, held, begins)
            | inr ge ↦
                let here : p ≡ n = omega arith in
                let (l, same) = got_at joins p j no_join (sym found) in
                let one : Some h ≡ Some g = sym held ∙ ap (λ (z : Join). slice_get k.groups.now z.group) (sym same ∙ ap (λ z. get_or joins z no_join) here) ∙ at in
                let e : h ≡ g = cc in
                inr (begins ∙ ap (λ (z : Group). z.start) e)
          ]

      from : (m : ℕ) → BeginsIn k (take n joins) m ⊎ (m ≡ g.start) → BeginsIn k (take (n + 1) joins) m
      from m (inl (j, h, i, held, begins)) = let (p, before, found) = taken_at n joins j i in (j, h, take_in (n + 1) joins p j (omega arith) found, held, begins)
      from m (inr e) = (get_or joins n no_join, g, take_in (n + 1) joins n (get_or joins n no_join) (omega arith) (slice_get-get_or joins n no_join lt), at, e)

  -- NOTHING, AND THE JOINS

  -- after the predecessor there may begin nothing, or what one of the joins has
  pub may_begin : (m : ℕ) → Contains (set_at k.recce.now m) predecessor → MayBegin k symbol m ↔ (((m ≡ k.end) × IsNullable k.recce.now.flat symbol) ⊎ BeginsIn k joins m)
  may_begin m at = (to, from)
    where
      to : MayBegin k symbol m → ((m ≡ k.end) × IsNullable k.recce.now.flat symbol) ⊎ BeginsIn k joins m
      to (inl n) = inl n
      to (inr (p, all, s, sum)) =
          let (n, g, held, gs, gl) = knows.gathered.groups.all p all in
          let here : m ≡ g.start = omega arith in
          let join : Join = record { rule = predecessor.rule; dot = predecessor.dot; origin = predecessor.origin; group = n } in
          let in_all : Contains k.joins.now (record { rule = predecessor.rule; dot = predecessor.dot; origin = predecessor.origin; group = n }) =
          (knows.gathered.joins.exact _).1 (g, held, (subst (λ z. Contains (set_at k.recce.now z) predecessor) here at, next.part ∙ ap Some (sym (gs ∙ s)), next.least)) in
          inr (record { rule = predecessor.rule; dot = predecessor.dot; origin = predecessor.origin; group = n }, g, (are.exact _).1 (in_all, refl), held, here)

      from : ((m ≡ k.end) × IsNullable k.recce.now.flat symbol) ⊎ BeginsIn k joins m → MayBegin k symbol m
      from (inl n) = inl n
      from (inr (j, g, i, held, begins)) =
          let (h, held', in_set, s) = group_of_join j i in
          let one : Some g ≡ Some h = sym held ∙ held' in
          let q : g ≡ h = cc in
          let (p, c, s', l, early) = group_before k knows g (got_item k.groups.now j.group g (sym held)) in
          inr (p, c, s' ∙ ap (λ (z : Group). z.symbol) q ∙ s, omega arith)

  begins_before : (m : ℕ) → BeginsIn k joins m → m < k.end
  begins_before m (j, g, i, held, begins) = let (p, c, s, l, early) = group_before k knows g (got_item k.groups.now j.group g (sym held)) in omega arith

  same_place : (high : Bool) (m : ℕ) → m ≡ k.end → start_place high m k.end ≡ (if high then 0 else 2)
  same_place high m e = ap (λ b. if b then (if high then 0 else 2) else 1) (eq-eqb m k.end e)

  pub nothing_first : (high : Bool) → high ≡ true → (m n : ℕ) → m ≡ k.end → BeginsIn k joins n → starts_cmp high k.end m n ≡ Less
  nothing_first high h m n e b = (λ i. ordering_then (nat_cmp ((same_place high m e ∙ ap (λ z. if z then 0 else 2) h) i) (place_inside high n k.end (begins_before n b) i)) (nat_cmp n m))

  pub nothing_last : (high : Bool) → high ≡ false → (m n : ℕ) → BeginsIn k joins m → n ≡ k.end → starts_cmp high k.end m n ≡ Less
  nothing_last high h m n b e = (λ i. ordering_then (nat_cmp (place_inside high m k.end (begins_before m b) i) ((same_place high n e ∙ ap (λ z. if z then 0 else 2) h) i)) (nat_cmp n m))
