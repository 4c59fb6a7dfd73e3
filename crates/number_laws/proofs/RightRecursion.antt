-- The links and the Leo pairs of a reading by right recursion.
use Rattle.std.proofs.Common.{arith, ◌≡◌, ◌⊎◌, inl, inr, ℕ, zero, suc, ◌+◌, ◌*◌, ◌<◌, ◌≤◌, List, [], ◌∷◌, length, Some, slice_get, refl, sym, ap, subst, lit<}
use Rattle.grammar_model.specs.declared.Edge.{Edge}
use Rattle.grammar_model.specs.Derives.{Edges, Held}
use Rattle.recognizer_model.specs.declared.Item.{Item}
use Rattle.recognizer_model.specs.declared.Pair.{Pair}
use Rattle.recognizer_model.specs.declared.flat.FlatSymbol.TheVariants.{Terminal}
use Rattle.recognizer_model.specs.Flat.{IsRule, IsNullable, lhs_of, rhs_of, part_of}
use Rattle.recognizer_model.specs.FlatForm.{FlatEdges}
use Rattle.recognizer_model.specs.Items.{after, IsWhole, first_item, advanced, InSet}
use Rattle.recognizer_model.specs.Contexts.{IsTop}
use Rattle.recognizer_model.specs.Leo.{IsLeo, IsNotLeo, LeadsTo, InReduced, GoesForward}
use Rattle.recognizer_model.specs.Links.{Link, Predicts, Skips, Scans, Completes, Leaps, IsLink, PlacedLink, IsPlacedLink, IsLeoPair}
use Rattle.recognizer_model.proofs.Leo.{reduced_inside, leo_of}
use Rattle.recognizer_model.proofs.Once.{leads_one}
use Rattle.finite_sets.proofs.Members.{Among, among_from, contains_from, Once}
use Rattle.number_laws.specs.RightRecursion.{right, tokens, RightRecursionCounts, RightRecursionRow}
use Rattle.recognizer_model.proofs.Counting.{list_is, one_count}

-- ---- the grammar

-- what a rule waits for, by its number and its dot
abbrev Waits : (rule dot x : ℕ) → Type 0
Waits r d x = ((r < 2) × (d ≡ 0) × (x ≡ 0)) ⊎ ((r ≡ 0) × (d ≡ 1) × (x ≡ 1)) ⊎ ((r ≡ 2) × (d ≡ 0) × (x ≡ 1))

waits : (r d x : ℕ) → part_of right r d ≡ Some x → Waits r d x
waits zero zero x e = let h : 0 ≡ x = cc in inl (lit< tt, refl, sym h)
waits zero (suc zero) x e = let h : 1 ≡ x = cc in inr (inl (refl, refl, sym h))
waits zero (suc (suc d)) x e = absurd (cc)
waits (suc zero) zero x e = let h : 0 ≡ x = cc in inl (lit< tt, refl, sym h)
waits (suc zero) (suc d) x e = absurd (cc)
waits (suc (suc zero)) zero x e = let h : 1 ≡ x = cc in inr (inr (refl, refl, sym h))
waits (suc (suc zero)) (suc d) x e = absurd (cc)
waits (suc (suc (suc r))) d x e = absurd (cc)

abbrev Left : (rule x : ℕ) → Type 0
Left r x = ((r < 2) × (x ≡ 1)) ⊎ ((r ≡ 2) × (x ≡ 2))

left : (r : ℕ) → IsRule right r → Left r (lhs_of right r)
left zero lt = inl (lit< tt, refl)
left (suc zero) lt = inl (lit< tt, refl)
left (suc (suc zero)) lt = inr (refl, refl)
left (suc (suc (suc r))) lt = absurd (omega (arith, lt))

left_s : (r : ℕ) → r < 2 → lhs_of right r ≡ 1
left_s zero lt = refl
left_s (suc zero) lt = refl
left_s (suc (suc r)) lt = absurd (omega (arith, lt))

waits_token : (r : ℕ) → r < 2 → part_of right r 0 ≡ Some 0
waits_token zero lt = refl
waits_token (suc zero) lt = refl
waits_token (suc (suc r)) lt = absurd (omega (arith, lt))

none_nullable : (x : ℕ) → IsNullable right x → ⊥
none_nullable zero e = absurd (cc)
none_nullable (suc zero) e = absurd (cc)
none_nullable (suc (suc zero)) e = absurd (cc)
none_nullable (suc (suc (suc x))) e = absurd (cc)

is_top : IsTop right 2
is_top = record {
  is_rule = lit< tt;
  alone = λ r rule e. alone r (lhs_of right r) (left r rule) e;
  outermost = λ r d e. (let w = waits r d 2 e in outermost r d w);
}
  where
    alone : (r x : ℕ) → Left r x → x ≡ 2 → r ≡ 2
    alone r x l e = grind arith

    outermost : (r d : ℕ) → Waits r d 2 → ⊥
    outermost r d w = grind arith

-- ---- the tokens

among_tokens : (n : ℕ) (e : Edge) → Among e (tokens n) → (e.symbol ≡ 0) × (e.to ≡ suc e.from) × (e.from < n)
among_tokens zero e m = absurd m
among_tokens (suc n) e (inl s) =
    let from : n ≡ e.from = ap (λ (u : Edge). u.from) s in
    let to : suc n ≡ e.to = ap (λ (u : Edge). u.to) s in
    (sym (ap (λ (u : Edge). u.symbol) s), omega (arith, from, to), omega (arith, from))
among_tokens (suc n) e (inr m) = let (symbol, to, lt) = among_tokens n e m in (symbol, to, omega (arith, lt))

token_among : (n k : ℕ) → k < n → Among (record { symbol = 0; from = k; to = suc k }) (tokens n)
token_among zero k lt = absurd (omega (arith, lt))
token_among (suc n) k lt = by (last n k lt) (token_among n k)
  where
    last : (n k : ℕ) → k < suc n → (n ≡ k) ⊎ (k < n)
    last n k lt = grind arith

    by : (n ≡ k) ⊎ (k < n) → (k < n → Among (record { symbol = 0; from = k; to = suc k }) (tokens n)) → Among (record { symbol = 0; from = k; to = suc k }) (tokens (suc n))
    by (inl e) there = inl (λ i. record { symbol = 0; from = e i; to = suc (e i) })
    by (inr lt) there = inr (there lt)

terminal_is : (x t : ℕ) → slice_get right.symbols x ≡ Some (Terminal t) → (x ≡ 0) × (t ≡ 0)
terminal_is zero t is = (refl, cc)
terminal_is (suc zero) t is = absurd (cc)
terminal_is (suc (suc zero)) t is = absurd (cc)
terminal_is (suc (suc (suc x))) t is = absurd (cc)

abbrev item : (rule dot origin : ℕ) → Item
item r d o = record { rule = r; dot = d; origin = o }

-- ---- the links and the pairs

abbrev link_at : ℕ → Link → PlacedLink
link_at j l = record { place = j; link = l }

abbrev links : ℕ → List PlacedLink
links zero = []
links (suc j) =
    link_at (suc j) (Predicts (item 0 1 j) 1) ∷ link_at (suc j) (Predicts (item 0 1 j) 0) ∷ link_at (suc j) (Scans (item 1 0 j) j) ∷ link_at (suc j) (Scans (item 0 0 j) j) ∷ link_at (suc j) (Leaps (item 1 1 j)) ∷ links j

links_length : (k : ℕ) → length (links k) ≡ 5 * k
links_length zero = refl
links_length (suc k) = let e = links_length k in omega (arith, e)

abbrev pair_at : ℕ → Pair
pair_at j = record { set = j; symbol = 1 }

abbrev pairs : ℕ → List Pair
pairs zero = pair_at 0 ∷ []
pairs (suc k) = pair_at (suc k) ∷ pairs k

pairs_length : (k : ℕ) → length (pairs k) ≡ suc k
pairs_length zero = refl
pairs_length (suc k) = ap suc (pairs_length k)

-- elements with numbers that fall are each there once
abbrev Falls : {X : Type 0} → (X → ℕ) → ℕ → List X → Type 0
Falls number most [] = Unit {0}
Falls number most (x ∷ xs) = (number x < most) × Falls number (number x) xs

falls_below : {X : Type 0} (number : X → ℕ) (most more : ℕ) (xs : List X) → most ≤ more → Falls number most xs → Falls number more xs
falls_below number most more [] le h = tt
falls_below number most more (x ∷ xs) le (lt, h) = (omega (arith, le, lt), h)

not_above : {X : Type 0} (number : X → ℕ) (most : ℕ) (xs : List X) (x : X) → Falls number most xs → Among x xs → number x < most
not_above number most [] x h m = absurd m
not_above number most (y ∷ ys) x (lt, h) (inl e) = let same = ap number e in omega (arith, lt, same)
not_above number most (y ∷ ys) x (lt, h) (inr m) = let less = not_above number (number y) ys x h m in omega (arith, lt, less)

once_falling : {X : Type 0} (number : X → ℕ) (most : ℕ) (xs : List X) → Falls number most xs → Once xs
once_falling number most [] h = tt
once_falling number most (x ∷ xs) (lt, h) = ((λ m. let less = not_above number (number x) xs x h m in absurd (omega (arith, less))), once_falling number (number x) xs h)

abbrev kind : Link → ℕ
kind (Predicts i r) = 4 + r
kind (Skips i) = 0
kind (Scans i from) = 2 + i.rule
kind (Completes w i) = 0
kind (Leaps w) = 1

links_fall : (k : ℕ) → Falls (λ p. 6 * p.place + kind p.link) (6 * suc k) (links k)
links_fall zero = tt
links_fall (suc k) = (omega arith, (omega arith, (omega arith, (omega arith, (omega arith, falls_below (λ p. 6 * p.place + kind p.link) (6 * suc k) (6 * suc k + 1) (links k) (omega arith) (links_fall k))))))

pairs_fall : (k : ℕ) → Falls (λ p. p.set) (suc k) (pairs k)
pairs_fall zero = (omega arith, tt)
pairs_fall (suc k) = (omega arith, pairs_fall k)

last_or_below : (j k : ℕ) → j < suc k → (j ≡ k) ⊎ (j < k)
last_or_below j k lt = grind arith

-- the links of a place are among those of more places
links_up : (k j : ℕ) (p : PlacedLink) → j < k → Among p (links (suc j)) → Among p (links k)
links_up zero j p lt m = absurd (omega (arith, lt))
links_up (suc k) j p lt m = by (last_or_below j k lt) (links_up k j p)
  where
    by : (j ≡ k) ⊎ (j < k) → (j < k → Among p (links (suc j)) → Among p (links k)) → Among p (links (suc k))
    by (inl e) more = subst (λ i. Among p (links (suc i))) e m
    by (inr less) more = inr (inr (inr (inr (inr (more less m)))))

pairs_up : (k j : ℕ) → j ≤ k → Among (pair_at j) (pairs k)
pairs_up zero j le = let e : 0 ≡ j = omega (arith, le) in inl (ap pair_at e)
pairs_up (suc k) j le = by (last_or_below j (suc k) (omega (arith, le))) (pairs_up k j)
  where
    by : (j ≡ suc k) ⊎ (j < suc k) → (j ≤ k → Among (pair_at j) (pairs k)) → Among (pair_at j) (pairs (suc k))
    by (inl e) more = inl (ap pair_at (sym e))
    by (inr less) more = inr (more (omega (arith, less)))

-- a rule of S with its parts
parts_s : (r : ℕ) → r < 2 → length (rhs_of right r) + r ≡ 2
parts_s zero lt = refl
parts_s (suc zero) lt = refl
parts_s (suc (suc r)) lt = absurd (omega (arith, lt))

module _ (n : ℕ) where
  abbrev E : Edges
  E = FlatEdges right (Held (tokens n))

  edge_is : (x p q : ℕ) → FlatEdges right (Held (tokens n)) x p q → (x ≡ 0) × (q ≡ suc p) × (p < n)
  edge_is x p q (t, is, held) =
      let (symbol, to, lt) = among_tokens n (record { symbol = t; from = p; to = q }) (among_from (tokens n) _ held) in
      ((terminal_is x t is).0, to, lt)

  edge : (p : ℕ) → p < n → FlatEdges right (Held (tokens n)) 0 p (suc p)
  edge p lt = (0, refl, contains_from (tokens n) _ (token_among n p lt))

  goes : GoesForward (FlatEdges right (Held (tokens n)))
  goes x p q e = let (s, to, lt) = edge_is x p q e in omega (arith, to)

  abbrev In : ℕ → Item → Type 0
  In j i = InSet right (FlatEdges right (Held (tokens n))) 2 j i

  abbrev Kept : ℕ → Item → Type 0
  Kept j i = InReduced right (FlatEdges right (Held (tokens n))) 2 j i

  -- ---- the full sets

  -- the top before and after all, a rule of S before and after its token, and a list after its rest
  abbrev At : (j rule dot origin : ℕ) → Type 0
  At j r d o = (j ≤ n) × (((r ≡ 2) × (d ≡ 0) × (o ≡ 0) × (j ≡ 0)) ⊎ ((r ≡ 2) × (d ≡ 1) × (o ≡ 0) × (0 < j)) ⊎ ((r < 2) × (d ≡ 0) × (o ≡ j)) ⊎ ((r < 2) × (d ≡ 1) × (suc o ≡ j)) ⊎ ((r ≡ 0) × (d ≡ 2) × (suc o < j)))

  at_predict : (j r d o x s : ℕ) → At j r d o → Waits r d x → Left s x → At j s 0 j
  at_predict j r d o x s a w l = grind arith

  at_scan : (j q r d o x : ℕ) → At j r d o → Waits r d x → x ≡ 0 → q ≡ suc j → j < n → At q r (suc d) o
  at_scan j q r d o x a w e next lt = grind arith

  at_complete : (j wr wd wo r d o x : ℕ) → At j wr wd wo → wo < j → At wo r d o → Waits r d x → Left wr x → At j r (suc d) o
  at_complete j wr wd wo r d o x whole lt a w l = grind arith

  in_rule : (j r d o : ℕ) → At j r d o → r < 3
  in_rule j r d o a = grind arith

  at : {j : ℕ} {i : Item} → InSet right (FlatEdges right (Held (tokens n))) 2 j i → At j i.rule i.dot i.origin
  at InSet.Start = (omega arith, inl (refl, refl, refl, refl))
  at (InSet.Predict {j = j} {x = x} {r = r} {item = i} s e rule l) =
      at_predict j i.rule i.dot i.origin x r (at s) (waits i.rule i.dot x e) (subst (Left r) l (left r rule))
  at (InSet.Skip {x = x} s e null) = absurd (none_nullable x null)
  at (InSet.Scan {i = p} {j = j} {x = x} {item = i} s e t) =
      let (symbol, to, lt) = edge_is x p j t in
      at_scan p j i.rule i.dot i.origin x (at s) (waits i.rule i.dot x e) symbol to lt
  at (InSet.Complete {j = j} {whole = w} {item = i} c whole lt s e) =
      let a = at c in
      at_complete j w.rule w.dot w.origin i.rule i.dot i.origin (lhs_of right w.rule) a lt (at s) (waits i.rule i.dot (lhs_of right w.rule) e) (left w.rule (in_rule j w.rule w.dot w.origin a))

  item_is : (i : Item) (r d o : ℕ) → i.rule ≡ r → i.dot ≡ d → i.origin ≡ o → item r d o ≡ i
  item_is i r d o a b c = λ k. record { rule = sym a k; dot = sym b k; origin = sym c k }

  -- ---- what is kept, and where completions lead

  only_first : (r d o : ℕ) → At 0 r d o → Waits r d 1 → (r ≡ 2) × (d ≡ 0) × (o ≡ 0)
  only_first r d o a w = (grind arith, grind arith, grind arith)

  only_later : (j r d o : ℕ) → At (suc j) r d o → Waits r d 1 → (r ≡ 0) × (d ≡ 1) × (o ≡ j)
  only_later j r d o a w = (grind arith, grind arith, grind arith)

  none_above : (j : ℕ) → IsNotLeo right (FlatEdges right (Held (tokens n))) 2 j 2
  none_above j i leo = is_top.outermost i.rule i.dot leo.waits

  begun_first : (r : ℕ) → r < 2 → Kept 0 (first_item r 0)
  begun_first r lt = InReduced.Predict {x = 1} {r = r} InReduced.Start refl (omega (arith, lt)) (left_s r lt)

  read_from : (j r : ℕ) → j < n → r < 2 → Kept j (first_item r j) → Kept (suc j) (advanced (first_item r j))
  read_from j r lt s k = InReduced.Scan {i = j} {x = 0} {item = first_item r j} k (waits_token r s) (edge j lt)

  begun : (j r : ℕ) → j ≤ n → r < 2 → Kept j (first_item r j)
  begun zero r le s = begun_first r s
  begun (suc j) r le s = InReduced.Predict {x = 1} {r = r} {item = advanced (first_item 0 j)} (read_from j 0 le (lit< tt) (begun j 0 (omega (arith, le)) (lit< tt))) refl (omega (arith, s)) (left_s r s)

  read : (j r : ℕ) → j < n → r < 2 → Kept (suc j) (advanced (first_item r j))
  read j r lt s = read_from j r lt s (begun j r (omega (arith, lt)) s)

  abbrev waiting : ℕ → Item
  waiting zero = first_item 2 0
  waiting (suc j) = advanced (first_item 0 j)

  waiting_kept : (j : ℕ) → j ≤ n → Kept j (waiting j)
  waiting_kept zero le = InReduced.Start
  waiting_kept (suc j) le = read j 0 le (lit< tt)

  waiting_waits : (j : ℕ) → (after right (waiting j) ≡ Some 1) × IsWhole right (advanced (waiting j))
  waiting_waits zero = (refl, refl)
  waiting_waits (suc j) = (refl, refl)

  only_one : (j : ℕ) (i : Item) → In j i → after right i ≡ Some 1 → i ≡ waiting j
  only_one zero i s e = let (r, d, o) = only_first i.rule i.dot i.origin (at s) (waits i.rule i.dot 1 e) in sym (item_is i 2 0 0 r d o)
  only_one (suc j) i s e = let (r, d, o) = only_later j i.rule i.dot i.origin (at s) (waits i.rule i.dot 1 e) in sym (item_is i 0 1 j r d o)

  leo : (j : ℕ) → j ≤ n → IsLeo right (FlatEdges right (Held (tokens n))) 2 j 1 (waiting j)
  leo j le = record {
    inside = reduced_inside right (FlatEdges right (Held (tokens n))) 2 is_top goes (waiting_kept j le);
    waits = (waiting_waits j).0;
    last = (waiting_waits j).1;
    only = only_one j;
  }

  leads : (j : ℕ) → j ≤ n → LeadsTo right (FlatEdges right (Held (tokens n))) 2 j 1 (advanced (first_item 2 0))
  leads zero le = LeadsTo.Last {item = first_item 2 0} (leo 0 le) (none_above 0)
  leads (suc j) le = LeadsTo.On {item = advanced (first_item 0 j)} (leo (suc j) le) (leads j (omega (arith, le)))

  -- as in the full sets, but that no list after its rest is kept
  abbrev KeptAt : (j rule dot origin : ℕ) → Type 0
  KeptAt j r d o = (j ≤ n) × (((r ≡ 2) × (d ≡ 0) × (o ≡ 0) × (j ≡ 0)) ⊎ ((r ≡ 2) × (d ≡ 1) × (o ≡ 0) × (0 < j)) ⊎ ((r < 2) × (d ≡ 0) × (o ≡ j)) ⊎ ((r < 2) × (d ≡ 1) × (suc o ≡ j)))

  kept_predict : (j r d o x s : ℕ) → KeptAt j r d o → Waits r d x → Left s x → KeptAt j s 0 j
  kept_predict j r d o x s a w l = grind arith

  kept_scan : (j q r d o x : ℕ) → KeptAt j r d o → Waits r d x → x ≡ 0 → q ≡ suc j → j < n → KeptAt q r (suc d) o
  kept_scan j q r d o x a w e next lt = grind arith

  kept_rule : (j r d o : ℕ) → KeptAt j r d o → r < 3
  kept_rule j r d o a = grind arith

  kept_place : (j r d o : ℕ) → KeptAt j r d o → (j ≤ n) × (o ≤ j)
  kept_place j r d o a = (grind arith, grind arith)

  left_one : (s r d x : ℕ) → Left s x → Waits r d x → x ≡ 1
  left_one s r d x l w = grind arith

  -- no completion goes on from item to item
  none_completes : (j : ℕ) (w i : Item) → w.origin ≤ n → IsRule right w.rule → IsNotLeo right (FlatEdges right (Held (tokens n))) 2 w.origin (lhs_of right w.rule) → after right i ≡ Some (lhs_of right w.rule) → ⊥
  none_completes j w i le rule none e =
      let one = left_one w.rule i.rule i.dot (lhs_of right w.rule) (left w.rule rule) (waits i.rule i.dot (lhs_of right w.rule) e) in
      subst (IsNotLeo right (FlatEdges right (Held (tokens n))) 2 w.origin) one none (waiting w.origin) (leo w.origin le)

  -- where a completion leads, it is of S
  leads_s : {j x : ℕ} {t : Item} (s : ℕ) → Left s x → LeadsTo right (FlatEdges right (Held (tokens n))) 2 j x t → x ≡ 1
  leads_s {x = x} s l to = let (i, is) = leo_of right (FlatEdges right (Held (tokens n))) 2 is_top goes to in left_one s i.rule i.dot x l (waits i.rule i.dot x is.waits)

  kept_at : {j : ℕ} {i : Item} → InReduced right (FlatEdges right (Held (tokens n))) 2 j i → KeptAt j i.rule i.dot i.origin
  kept_at InReduced.Start = (omega arith, inl (refl, refl, refl, refl))
  kept_at (InReduced.Predict {j = j} {x = x} {r = r} {item = i} s e rule l) =
      kept_predict j i.rule i.dot i.origin x r (kept_at s) (waits i.rule i.dot x e) (subst (Left r) l (left r rule))
  kept_at (InReduced.Skip {x = x} s e null) = absurd (none_nullable x null)
  kept_at (InReduced.Scan {i = p} {j = j} {x = x} {item = i} s e t) =
      let (symbol, to, lt) = edge_is x p j t in
      kept_scan p j i.rule i.dot i.origin x (kept_at s) (waits i.rule i.dot x e) symbol to lt
  kept_at (InReduced.Complete {j = j} {whole = w} {item = i} c whole lt none s e) =
      let a = kept_at c in
      let (le, below) = kept_place j w.rule w.dot w.origin a in
      absurd (none_completes j w i (omega (arith, le, below)) (kept_rule j w.rule w.dot w.origin a) none e)
  kept_at (InReduced.Leap {j = j} {whole = w} {topmost = t} c whole lt to) =
      let a = kept_at c in
      let (le, below) = kept_place j w.rule w.dot w.origin a in
      let one = leads_s w.rule (left w.rule (kept_rule j w.rule w.dot w.origin a)) to in
      let same : advanced (first_item 2 0) ≡ t = leads_one right (FlatEdges right (Held (tokens n))) 2 is_top goes (leads w.origin (omega (arith, le, below))) (subst (λ x. LeadsTo right (FlatEdges right (Held (tokens n))) 2 w.origin x t) one to) in
      subst (λ (i : Item). KeptAt j i.rule i.dot i.origin) same (le, inr (inl (refl, refl, refl, omega (arith, lt))))

  -- ---- the links are these

  abbrev Linked : ℕ → PlacedLink → Type 0
  Linked k p = IsPlacedLink right (FlatEdges right (Held (tokens n))) 2 k p

  from_links : (k : ℕ) → k ≤ n → (p : PlacedLink) → Among p (links k) → IsPlacedLink right (FlatEdges right (Held (tokens n))) 2 k p
  from_links zero le p m = absurd m
  from_links (suc k) le p (inl e) = subst (Linked (suc k)) e (omega arith, omega arith, (1, read k 0 le (lit< tt), refl, lit< tt, refl))
  from_links (suc k) le p (inr (inl e)) = subst (Linked (suc k)) e (omega arith, omega arith, (1, read k 0 le (lit< tt), refl, lit< tt, refl))
  from_links (suc k) le p (inr (inr (inl e))) = subst (Linked (suc k)) e (omega arith, omega arith, (0, begun k 1 (omega (arith, le)) (lit< tt), refl, edge k le))
  from_links (suc k) le p (inr (inr (inr (inl e)))) = subst (Linked (suc k)) e (omega arith, omega arith, (0, begun k 0 (omega (arith, le)) (lit< tt), refl, edge k le))
  from_links (suc k) le p (inr (inr (inr (inr (inl e))))) =
      subst (Linked (suc k)) e (omega arith, omega arith, ((read k 1 le (lit< tt), refl, omega arith), (advanced (first_item 2 0), leads k (omega (arith, le)))))
  from_links (suc k) le p (inr (inr (inr (inr (inr m))))) = let (some, below, is) = from_links k (omega (arith, le)) p m in (some, omega (arith, below), is)

  predicts_is : (j r d o x s : ℕ) → KeptAt (suc j) r d o → Waits r d x → Left s x → (r ≡ 0) × (d ≡ 1) × (o ≡ j) × (s < 2)
  predicts_is j r d o x s a w l = (grind arith, grind arith, grind arith, grind arith)

  scans_is : (j r d o x : ℕ) → KeptAt j r d o → Waits r d x → x ≡ 0 → (r < 2) × (d ≡ 0) × (o ≡ j)
  scans_is j r d o x a w e = (grind arith, grind arith, grind arith)

  leaps_is : (j r d o parts x : ℕ) → KeptAt (suc j) r d o → r < 2 → d ≡ parts → parts + r ≡ 2 → (r ≡ 1) × (d ≡ 1) × (o ≡ j)
  leaps_is j r d o parts x a s whole all = (grind arith, grind arith, grind arith)

  of_s : (r x : ℕ) → Left r x → x ≡ 1 → r < 2
  of_s r x l e = grind arith

  predict_among : (j s : ℕ) → s < 2 → Among (link_at (suc j) (Predicts (item 0 1 j) s)) (links (suc j))
  predict_among j zero lt = inr (inl refl)
  predict_among j (suc zero) lt = inl refl
  predict_among j (suc (suc s)) lt = absurd (omega (arith, lt))

  scan_among : (j s : ℕ) → s < 2 → Among (link_at (suc j) (Scans (item s 0 j) j)) (links (suc j))
  scan_among j zero lt = inr (inr (inr (inl refl)))
  scan_among j (suc zero) lt = inr (inr (inl refl))
  scan_among j (suc (suc s)) lt = absurd (omega (arith, lt))

  link_in : (j : ℕ) (l : Link) → IsLink right (FlatEdges right (Held (tokens n))) 2 (suc j) l → Among (link_at (suc j) l) (links (suc j))
  link_in j (Predicts i s) (x, k, e, rule, l) =
      let (r, d, o, lt) = predicts_is j i.rule i.dot i.origin x s (kept_at k) (waits i.rule i.dot x e) (subst (Left s) l (left s rule)) in
      subst (λ i. Among (link_at (suc j) (Predicts i s)) (links (suc j))) (item_is i 0 1 j r d o) (predict_among j s lt)
  link_in j (Skips i) (x, k, e, null) = absurd (none_nullable x null)
  link_in j (Scans i from) (x, k, e, t) =
      let (symbol, to, lt) = edge_is x from (suc j) t in
      let (r, d, o) = scans_is from i.rule i.dot i.origin x (kept_at k) (waits i.rule i.dot x e) symbol in
      let same : j ≡ from = omega (arith, to) in
      subst (λ i. Among (link_at (suc j) (Scans i from)) (links (suc j))) (item_is i i.rule 0 from refl d o)
      (subst (λ f. Among (link_at (suc j) (Scans (item i.rule 0 f) f)) (links (suc j))) same (scan_among j i.rule r))
  link_in j (Completes w i) ((c, whole, lt), none, k, e) =
      let a = kept_at c in
      let (le, below) = kept_place (suc j) w.rule w.dot w.origin a in
      absurd (none_completes (suc j) w i (omega (arith, le, below)) (kept_rule (suc j) w.rule w.dot w.origin a) none e)
  link_in j (Leaps w) ((c, whole, lt), (t, to)) =
      let a = kept_at c in
      let l = left w.rule (kept_rule (suc j) w.rule w.dot w.origin a) in
      let s = of_s w.rule (lhs_of right w.rule) l (leads_s w.rule l to) in
      let (r, d, o) = leaps_is j w.rule w.dot w.origin (length (rhs_of right w.rule)) 0 a s whole (parts_s w.rule s) in
      subst (λ w. Among (link_at (suc j) (Leaps w)) (links (suc j))) (item_is w 1 1 j r d o) (inr (inr (inr (inr (inl refl)))))

  to_links : (k : ℕ) (p : PlacedLink) → IsPlacedLink right (FlatEdges right (Held (tokens n))) 2 k p → Among p (links k)
  to_links k p (some, le, is) = by p.place p.link some le is
    where
      by : (place : ℕ) (l : Link) → 0 < place → place ≤ k → IsLink right (FlatEdges right (Held (tokens n))) 2 place l → Among (link_at place l) (links k)
      by zero l some le is = absurd (omega (arith, some))
      by (suc j) l some le is = links_up k j (link_at (suc j) l) le (link_in j l is)

  -- ---- and the pairs

  leo_s : (j x : ℕ) (i : Item) → j ≤ n → IsLeo right (FlatEdges right (Held (tokens n))) 2 j x i → x ≡ 1
  leo_s j x i le is = by (waits i.rule i.dot x is.waits)
    where
      inside : (r : ℕ) → r < 2 → In j (first_item r j)
      inside r lt = reduced_inside right (FlatEdges right (Held (tokens n))) 2 is_top goes (begun j r le lt)

      by : Waits i.rule i.dot x → x ≡ 1
      by (inl (lt, d, e)) =
          let a : 0 ≡ i.rule = ap (λ (u : Item). u.rule) (is.only (first_item 0 j) (inside 0 (lit< tt)) (ap Some (sym e))) in
          let b : 1 ≡ i.rule = ap (λ (u : Item). u.rule) (is.only (first_item 1 j) (inside 1 (lit< tt)) (ap Some (sym e))) in
          omega (arith, a, b)
      by (inr (inl (r, d, e))) = e
      by (inr (inr (r, d, e))) = e

  abbrev Paired : ℕ → Pair → Type 0
  Paired k p = IsLeoPair right (FlatEdges right (Held (tokens n))) 2 k p

  from_pairs : (k : ℕ) → k ≤ n → (p : Pair) → Among p (pairs k) → IsLeoPair right (FlatEdges right (Held (tokens n))) 2 k p
  from_pairs zero le p (inl e) = subst (Paired 0) e (omega arith, (waiting 0, leo 0 le))
  from_pairs zero le p (inr m) = absurd m
  from_pairs (suc k) le p (inl e) = subst (Paired (suc k)) e (omega arith, (waiting (suc k), leo (suc k) le))
  from_pairs (suc k) le p (inr m) = let (below, is) = from_pairs k (omega (arith, le)) p m in (omega (arith, below), is)

  to_pairs : (p : Pair) → IsLeoPair right (FlatEdges right (Held (tokens n))) 2 n p → Among p (pairs n)
  to_pairs p (le, (i, is)) =
      let one = leo_s p.set p.symbol i le is in
      subst (λ x. Among (record { set = p.set; symbol = x }) (pairs n)) (sym one) (pairs_up n p.set le)

pub right_recursion_counts : RightRecursionCounts
right_recursion_counts n = (
  (links n, list_is (IsPlacedLink right (FlatEdges right (Held (tokens n))) 2 n) (links n) (once_falling (λ p. 6 * p.place + kind p.link) (6 * suc n) (links n) (links_fall n)) (from_links n n (omega arith)) (to_links n n), links_length n),
  (pairs n, list_is (IsLeoPair right (FlatEdges right (Held (tokens n))) 2 n) (pairs n) (once_falling (λ p. p.set) (suc n) (pairs n) (pairs_fall n)) (from_pairs n n (omega arith)) (to_pairs n), pairs_length n),
)

pub right_recursion_row : RightRecursionRow
right_recursion_row links pairs l p =
    let (links_are, pairs_are) = right_recursion_counts 10000 in
    let a = one_count (IsPlacedLink right (FlatEdges right (Held (tokens 10000))) 2 10000) links (5 * 10000) l links_are in
    let b = one_count (IsLeoPair right (FlatEdges right (Held (tokens 10000))) 2 10000) pairs (suc 10000) p pairs_are in
    omega (arith, a, b)
