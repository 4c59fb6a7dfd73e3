-- The sets of a reading of so many tokens by flat recursion, what the reduced ones keep, and what they leave out.
use Rattle.std.proofs.Common.{arith, ◌≡◌, ◌⊎◌, inl, inr, ℕ, zero, suc, ◌+◌, ◌<◌, ◌≤◌, Some, slice_get, refl, sym, ap, subst, lit<}
use Rattle.grammar_model.specs.declared.Edge.{Edge}
use Rattle.grammar_model.specs.Derives.{Edges, Held}
use Rattle.reading_model.specs.Reading.{edges_from, edges_of, earleme_after}
use Rattle.recognizer_model.specs.declared.Item.{Item}
use Rattle.recognizer_model.specs.declared.flat.FlatSymbol.TheVariants.{Terminal}
use Rattle.recognizer_model.specs.Flat.{IsRule, lhs_of, part_of}
use Rattle.recognizer_model.specs.FlatForm.{FlatEdges}
use Rattle.recognizer_model.specs.Items.{after, IsWhole, first_item, advanced, InSet}
use Rattle.recognizer_model.specs.Leo.{IsLeo, IsNotLeo, LeadsTo, InReduced, InExpanded, IsHidden, GoesForward}
use Rattle.recognizer_model.proofs.Leo.{reduced_inside, leo_of}
use Rattle.recognizer_model.proofs.Once.{leads_one}
use Rattle.finite_sets.proofs.Members.{Among, among_from, contains_from}
use Rattle.outcome_laws.specs.Figures.{row}
use Rattle.outcome_laws.proofs.RightFlat.{flat}
use Rattle.outcome_laws.proofs.RightShape.{rule_by, part_by, none_nullable, is_top}

-- ---- the grammar

-- what a rule waits for, by its number and its dot
abbrev pub Waits : (rule dot x : ℕ) → Type 0
Waits r d x = ((r < 2) × (d ≡ 0) × (x ≡ 0)) ⊎ ((r ≡ 0) × (d ≡ 1) × (x ≡ 1)) ⊎ ((r ≡ 2) × (d ≡ 0) × (x ≡ 1))

pub waits : (r d x : ℕ) → part_of flat r d ≡ Some x → Waits r d x
waits = part_by 1 0 Waits (inl (lit< tt, refl, refl)) (inr (inl (refl, refl, refl))) (inl (lit< tt, refl, refl)) (inr (inr (refl, refl, refl)))

abbrev pub Left : (rule x : ℕ) → Type 0
Left r x = ((r < 2) × (x ≡ 1)) ⊎ ((r ≡ 2) × (x ≡ 2))

pub left : (r : ℕ) → IsRule flat r → Left r (lhs_of flat r)
left = rule_by 1 0 (λ r. Left r (lhs_of flat r)) (inl (lit< tt, refl)) (inl (lit< tt, refl)) (inr (refl, refl))

left_s : (r : ℕ) → r < 2 → lhs_of flat r ≡ 1
left_s zero lt = refl
left_s (suc zero) lt = refl
left_s (suc (suc r)) lt = absurd (omega (arith, lt))

waits_token : (r : ℕ) → r < 2 → part_of flat r 0 ≡ Some 0
waits_token zero lt = refl
waits_token (suc zero) lt = refl
waits_token (suc (suc r)) lt = absurd (omega (arith, lt))

pub terminal_is : (x t : ℕ) → slice_get flat.symbols x ≡ Some (Terminal t) → (x ≡ 0) × (t ≡ 1)
terminal_is zero t is = (refl, cc)
terminal_is (suc zero) t is = absurd (cc)
terminal_is (suc (suc zero)) t is = absurd (cc)
terminal_is (suc (suc (suc x))) t is = absurd (cc)

-- ---- the tokens

abbrev pub edge_at : ℕ → Edge
edge_at p = record { symbol = 1; from = p; to = suc p }

pub among_tokens : (n place : ℕ) (e : Edge) → Among e (edges_from place (row n)) → (e.symbol ≡ 1) × (e.to ≡ suc e.from) × (e.from < place + n)
among_tokens zero place e m = absurd m
among_tokens (suc n) place e (inl s) =
    let from : place ≡ e.from = ap (λ (u : Edge). u.from) s in
    let to : suc place ≡ e.to = ap (λ (u : Edge). u.to) s in
    (sym (ap (λ (u : Edge). u.symbol) s), omega (arith, from, to), omega (arith, from))
among_tokens (suc n) place e (inr m) = let (symbol, to, lt) = among_tokens n (suc place) e m in (symbol, to, omega (arith, lt))

pub token_among : (n place k : ℕ) → place ≤ k → k < place + n → Among (edge_at k) (edges_from place (row n))
token_among zero place k le lt = absurd (omega (arith, le, lt))
token_among (suc n) place k le lt = by (here_or_later place k le) (token_among n (suc place) k)
  where
    here_or_later : (p k : ℕ) → p ≤ k → (p ≡ k) ⊎ (suc p ≤ k)
    here_or_later p k le = grind arith

    by : (place ≡ k) ⊎ (suc place ≤ k) → (suc place ≤ k → k < suc place + n → Among (edge_at k) (edges_from (suc place) (row n))) → Among (edge_at k) (edges_from place (row (suc n)))
    by (inl e) later = inl (λ i. edge_at (e i))
    by (inr more) later = inr (later more (omega (arith, lt)))

pub tokens_place : (n : ℕ) → earleme_after (row n) ≡ n
tokens_place zero = refl
tokens_place (suc n) = ap suc (tokens_place n)

-- the edges of so many tokens
abbrev pub row_edges : ℕ → Edges
row_edges n = FlatEdges flat (Held (edges_of (row n)))

module _ (n : ℕ) where
  pub edge_is : (x p q : ℕ) → row_edges n x p q → (x ≡ 0) × (q ≡ suc p) × (p < n)
  edge_is x p q (t, is, held) =
      let (symbol, to, lt) = among_tokens n 0 (record { symbol = t; from = p; to = q }) (among_from (edges_of (row n)) _ held) in
      ((terminal_is x t is).0, to, omega (arith, lt))

  pub edge : (p : ℕ) → p < n → FlatEdges flat (Held (edges_of (row n))) 0 p (suc p)
  edge p lt = (1, refl, contains_from (edges_of (row n)) _ (token_among n 0 p (omega arith) (omega (arith, lt))))

  pub goes : GoesForward (row_edges n)
  goes x p q e = let (s, to, lt) = edge_is x p q e in omega (arith, to)

  abbrev pub In : ℕ → Item → Type 0
  In j i = InSet flat (row_edges n) 2 j i

  abbrev pub Kept : ℕ → Item → Type 0
  Kept j i = InReduced flat (row_edges n) 2 j i

  -- ---- the full sets

  -- the top before and after all, a rule of S before and after its token, and a list after its rest
  abbrev pub At : (j rule dot origin : ℕ) → Type 0
  At j r d o = (j ≤ n) × (((r ≡ 2) × (d ≡ 0) × (o ≡ 0) × (j ≡ 0)) ⊎ ((r ≡ 2) × (d ≡ 1) × (o ≡ 0) × (0 < j)) ⊎ ((r < 2) × (d ≡ 0) × (o ≡ j)) ⊎ ((r < 2) × (d ≡ 1) × (suc o ≡ j)) ⊎ ((r ≡ 0) × (d ≡ 2) × (suc o < j)))

  at_predict : (j r d o x s : ℕ) → At j r d o → Waits r d x → Left s x → At j s 0 j
  at_predict j r d o x s a w l = grind arith

  at_scan : (j q r d o x : ℕ) → At j r d o → Waits r d x → x ≡ 0 → q ≡ suc j → j < n → At q r (suc d) o
  at_scan j q r d o x a w e next lt = grind arith

  at_complete : (j wr wd wo r d o x : ℕ) → At j wr wd wo → wo < j → At wo r d o → Waits r d x → Left wr x → At j r (suc d) o
  at_complete j wr wd wo r d o x whole lt a w l = grind arith

  pub in_rule : (j r d o : ℕ) → At j r d o → r < 3
  in_rule j r d o a = grind arith

  pub at : {j : ℕ} {i : Item} → InSet flat (row_edges n) 2 j i → At j i.rule i.dot i.origin
  at InSet.Start = (omega arith, inl (refl, refl, refl, refl))
  at (InSet.Predict {j = j} {x = x} {r = r} {item = i} s e rule l) =
      at_predict j i.rule i.dot i.origin x r (at s) (waits i.rule i.dot x e) (subst (Left r) l (left r rule))
  at (InSet.Skip {x = x} s e null) = absurd (none_nullable 1 0 x null)
  at (InSet.Scan {i = p} {j = j} {x = x} {item = i} s e t) =
      let (symbol, to, lt) = edge_is x p j t in
      at_scan p j i.rule i.dot i.origin x (at s) (waits i.rule i.dot x e) symbol to lt
  at (InSet.Complete {j = j} {whole = w} {item = i} c whole lt s e) =
      let a = at c in
      at_complete j w.rule w.dot w.origin i.rule i.dot i.origin (lhs_of flat w.rule) a lt (at s) (waits i.rule i.dot (lhs_of flat w.rule) e) (left w.rule (in_rule j w.rule w.dot w.origin a))

  abbrev pub item : (rule dot origin : ℕ) → Item
  item r d o = record { rule = r; dot = d; origin = o }

  pub item_is : (i : Item) (r d o : ℕ) → i.rule ≡ r → i.dot ≡ d → i.origin ≡ o → item r d o ≡ i
  item_is i r d o a b c = λ k. record { rule = sym a k; dot = sym b k; origin = sym c k }

  -- ---- what is kept, and where completions lead

  only_first : (r d o : ℕ) → At 0 r d o → Waits r d 1 → (r ≡ 2) × (d ≡ 0) × (o ≡ 0)
  only_first r d o a w = (grind arith, grind arith, grind arith)

  only_later : (j r d o : ℕ) → At (suc j) r d o → Waits r d 1 → (r ≡ 0) × (d ≡ 1) × (o ≡ j)
  only_later j r d o a w = (grind arith, grind arith, grind arith)

  none_above : (j : ℕ) → IsNotLeo flat (row_edges n) 2 j 2
  none_above j i leo = (is_top 1 0).outermost i.rule i.dot leo.waits

  begun_first : (r : ℕ) → r < 2 → Kept 0 (first_item r 0)
  begun_first r lt = InReduced.Predict {x = 1} {r = r} InReduced.Start refl (omega (arith, lt)) (left_s r lt)

  read_from : (j r : ℕ) → j < n → r < 2 → Kept j (first_item r j) → Kept (suc j) (advanced (first_item r j))
  read_from j r lt s k = InReduced.Scan {i = j} {x = 0} {item = first_item r j} k (waits_token r s) (edge j lt)

  begun : (j r : ℕ) → j ≤ n → r < 2 → Kept j (first_item r j)
  begun zero r le s = begun_first r s
  begun (suc j) r le s = InReduced.Predict {x = 1} {r = r} {item = advanced (first_item 0 j)} (read_from j 0 le (lit< tt) (begun j 0 (omega (arith, le)) (lit< tt))) refl (omega (arith, s)) (left_s r s)

  read : (j r : ℕ) → j < n → r < 2 → Kept (suc j) (advanced (first_item r j))
  read j r lt s = read_from j r lt s (begun j r (omega (arith, lt)) s)

  abbrev waiting : ℕ → Item
  waiting zero = first_item 2 0
  waiting (suc j) = advanced (first_item 0 j)

  waiting_kept : (j : ℕ) → j ≤ n → Kept j (waiting j)
  waiting_kept zero le = InReduced.Start
  waiting_kept (suc j) le = read j 0 le (lit< tt)

  waiting_waits : (j : ℕ) → (after flat (waiting j) ≡ Some 1) × IsWhole flat (advanced (waiting j))
  waiting_waits zero = (refl, refl)
  waiting_waits (suc j) = (refl, refl)

  only_one : (j : ℕ) (i : Item) → In j i → after flat i ≡ Some 1 → i ≡ waiting j
  only_one zero i s e = let (r, d, o) = only_first i.rule i.dot i.origin (at s) (waits i.rule i.dot 1 e) in sym (item_is i 2 0 0 r d o)
  only_one (suc j) i s e = let (r, d, o) = only_later j i.rule i.dot i.origin (at s) (waits i.rule i.dot 1 e) in sym (item_is i 0 1 j r d o)

  leo : (j : ℕ) → j ≤ n → IsLeo flat (row_edges n) 2 j 1 (waiting j)
  leo j le = record {
    inside = reduced_inside flat (row_edges n) 2 (is_top 1 0) goes (waiting_kept j le);
    waits = (waiting_waits j).0;
    last = (waiting_waits j).1;
    only = only_one j;
  }

  leads : (j : ℕ) → j ≤ n → LeadsTo flat (row_edges n) 2 j 1 (advanced (first_item 2 0))
  leads zero le = LeadsTo.Last {item = first_item 2 0} (leo 0 le) (none_above 0)
  leads (suc j) le = LeadsTo.On {item = advanced (first_item 0 j)} (leo (suc j) le) (leads j (omega (arith, le)))

  left_one : (s r d x : ℕ) → Left s x → Waits r d x → x ≡ 1
  left_one s r d x l w = grind arith

  -- the completed item of a reduced set, as one of the full set
  completed : {j : ℕ} {w : Item} → InReduced flat (row_edges n) 2 j w → At j w.rule w.dot w.origin
  completed c = at (reduced_inside flat (row_edges n) 2 (is_top 1 0) goes c)

  -- no list after its rest is kept
  pub not_kept : {j : ℕ} {i : Item} → InReduced flat (row_edges n) 2 j i → i.dot ≡ 2 → ⊥
  not_kept InReduced.Start d = omega (arith, d)
  not_kept (InReduced.Predict s e rule l) d = omega (arith, d)
  not_kept (InReduced.Skip {x = x} s e null) d = none_nullable 1 0 x null
  not_kept (InReduced.Scan {i = p} {j = j} {x = x} {item = i} s e t) d =
      let symbol = (edge_is x p j t).0 in let w = waits i.rule i.dot x e in no_scan i.rule i.dot x w symbol d
    where
      no_scan : (r d x : ℕ) → Waits r d x → x ≡ 0 → suc d ≡ 2 → ⊥
      no_scan r d x w e h = grind arith
  not_kept (InReduced.Complete {j = j} {whole = w} {item = i} c whole lt none s e) d =
      let a = completed c in
      let one = left_one w.rule i.rule i.dot (lhs_of flat w.rule) (left w.rule (in_rule j w.rule w.dot w.origin a)) (waits i.rule i.dot (lhs_of flat w.rule) e) in
      let le = a.0 in
      subst (IsNotLeo flat (row_edges n) 2 w.origin) one none (waiting w.origin) (leo w.origin (omega (arith, le, lt)))
  not_kept (InReduced.Leap {j = j} {whole = w} {topmost = t} c whole lt to) d =
      let a = completed c in
      let (i, is) = leo_of flat (row_edges n) 2 (is_top 1 0) goes to in
      let one = left_one w.rule i.rule i.dot (lhs_of flat w.rule) (left w.rule (in_rule j w.rule w.dot w.origin a)) (waits i.rule i.dot (lhs_of flat w.rule) is.waits) in
      let le = a.0 in
      let same : advanced (first_item 2 0) ≡ t =
      leads_one flat (row_edges n) 2 (is_top 1 0) goes (leads w.origin (omega (arith, le, lt)))
      (subst (λ x. LeadsTo flat (row_edges n) 2 w.origin x t) one to) in
      let dot = ap (λ (u : Item). u.dot) same in
      omega (arith, dot, d)

  -- ---- what is left out

  -- lists after their rest alone are hidden
  pub hidden_at : (j r d o : ℕ) → At j r d o → (Kept j (item r d o) → ⊥) → (r ≡ 0) × (d ≡ 2) × (suc o < j)
  hidden_at j r d o (le, inl (a, b, c, e)) none = absurd (none (subst (λ z. Kept z (item r d o)) (sym e) (subst (λ i. Kept 0 i) (item_is (item r d o) 2 0 0 a b c) InReduced.Start)))
  hidden_at zero r d o (le, inr (inl (a, b, c, lt))) none = absurd (omega (arith, lt))
  hidden_at (suc j) r d o (le, inr (inl (a, b, c, lt))) none =
      absurd (none (subst (λ i. Kept (suc j) i) (item_is (item r d o) 2 1 0 a b c) (InReduced.Leap {whole = item 1 1 j} (read j 1 le (lit< tt)) refl (omega arith) (leads j (omega (arith, le))))))
  hidden_at j r d o (le, inr (inr (inl (s, b, c)))) none =
      absurd (none (subst (λ i. Kept j i) (item_is (item r d o) r 0 j refl b c) (begun j r le s)))
  hidden_at j r d o (le, inr (inr (inr (inl (s, b, c))))) none =
      absurd (none (subst (λ z. Kept z (item r d o)) c (subst (λ i. Kept (suc o) i) (item_is (item r d o) r 1 o refl b refl) (read o r (omega (arith, c, le)) s))))
  hidden_at j r d o (le, inr (inr (inr (inr (a, b, lt))))) none = (a, b, lt)

  -- a list after its rest is reached step by step from its last token
  ends : (more o : ℕ) → suc o + more < n → InExpanded flat (row_edges n) 2 (suc (suc o) + more) (item 0 2 o)
  ends zero o lt =
      InExpanded.Step {whole = item 1 1 (suc o)} {item = item 0 1 o} (InExpanded.Kept (subst (λ z. Kept z (item 1 1 (suc o))) (let e : suc (suc o) ≡ suc (suc o) + 0 = omega arith in e) (read (suc o) 1 (omega (arith, lt)) (lit< tt)))) refl (omega arith)
      (leo (suc o) (omega (arith, lt)))
  ends (suc more) o lt =
      InExpanded.Step {whole = item 0 2 (suc o)} {item = item 0 1 o}
      (subst (λ z. InExpanded flat (row_edges n) 2 z (item 0 2 (suc o))) (let e : suc (suc (suc o)) + more ≡ suc (suc o) + suc more = omega arith in e) (ends more (suc o) (omega (arith, lt)))) refl (omega arith)
      (leo (suc o) (omega (arith, lt)))

  pub is_hidden : (more o : ℕ) → suc o + more < n → IsHidden flat (row_edges n) 2 (suc (suc o) + more) (item 0 2 o)
  is_hidden more o lt = (ends more o lt, λ k. not_kept k refl)
