-- The rows along a text tell what each start derives up to each place.
use Rattle.std.proofs.Common.{◌≡◌, ◌⊎◌, ◌↔◌, inl, inr, ℕ, zero, suc, ◌<◌, ◌≤◌, length, Some, None, Option, List, [], ◌∷◌, Contains, slice_get, refl, sym, ◌∙◌, ap, subst, arith}
use Rattle.std.specs.Prelude.{slice_index}
use Rattle.std.proofs.lemmas.Bool.{cases_lt}
use Rattle.grammar_model.specs.Derives.{Edges}
use Rattle.grammar_model.specs.Trees.{Tree, Children, NoChild, Child}
use Rattle.recognizer_model.specs.Flat.{FlatGrammar, IsRule, lhs_of, rhs_of, part_of, IsNullable}
use Rattle.recognizer_model.specs.FlatDerives.{Derives, Token, Null, Rule, Spans, Nothing, More}
use Rattle.recognizer_model.specs.Threads.{Label, Thread, next, IsDone, begun, step, Parts, Row, Folds, Stay, Up, On, Leaves, Labelled, Here, Reached, Begin, Predict, Skip, Complete, IsClosed, IsScanned, IsStep, IsRun, AreStarts, IsTopRule, IsChosen, Waiting, IsPlace, PartAt, IsRunOf, RowsTell, IsDerivedTo}
use Rattle.grammar_model.specs.Derives.{Derives as ViewDerives}
use Rattle.grammar_model.specs.Grammar.{slot_of}
use Rattle.recognizer_model.specs.Acceptable.{OnlyTerminals}
use Rattle.recognizer_model.specs.Invariant.{IsFlat}
use Rattle.recognizer_model.specs.View.{grammar_view}
use Rattle.recognizer_model.proofs.Views.{symbol_viewed, symbol_back}
use Rattle.recognizer_model.proofs.Leo.{past_end}

module _ (g : FlatGrammar) (E : Edges) (IsStart IsKnown Chosen : ℕ → Type 0) (W : Parts) (K R : ℕ → Row) (n : ℕ)
    (starts : AreStarts g IsStart) (by_one : (x p q : ℕ) → E x p q → q ≡ suc p) (run : IsRun g E IsStart IsKnown Chosen W K R n) where
  abbrev pub Spanned : (r d p q : ℕ) → Type 0
  Spanned r d p q = (cs : Children) × Spans g E r d p q cs

  abbrev Derived : (x p q : ℕ) → Type 0
  Derived x p q = (t : Tree) × Derives g E x p q t

  -- ---- what is found is derived

  -- where the symbol is found from there, the label's goal is found from a place whose row has its part
  record Leads (o x : ℕ) (l : Label) : Type 0 where
    from : ℕ
    below : from ≤ o
    part : (th : Thread) → W l.part th → R from th
    leads : (q : ℕ) → o < q → Derived x o q → Derived l.goal from q

  -- the thread's parts were found
  record IsBehind (j : ℕ) (th : Thread) (o : ℕ) : Type 0 where
    rule : IsRule g th.rule
    spans : Spanned th.rule th.dot o j
    start : IsStart th.rule → (o ≡ 0) × Chosen th.rule
    here : th.label ≡ None → o ≡ j
    away : (l : Label) → th.label ≡ Some l → (o < j) × Leads o (lhs_of g th.rule) l

  abbrev Backed : ℕ → Thread → Type 0
  Backed j th = (o : ℕ) × IsBehind j th o

  abbrev RowBacked : ℕ → Type 0
  RowBacked j = (th : Thread) → R j th → Backed j th

  some_none : {A : Type 0} {x : A} → {o : Option A} → o ≡ Some x → o ≡ None → ⊥
  some_none e f = cc

  same_label : {l m : Label} → {o : Option Label} → o ≡ Some l → o ≡ Some m → l ≡ m
  same_label e f = cc

  more : {r d o m q x : ℕ} → Spanned r d o m → part_of g r d ≡ Some x → Derived x m q → Spanned r (suc d) o q
  more (cs, s) e (t, d) = (Child cs t, More s e d)

  whole : {r d o q : ℕ} → IsRule g r → d ≡ length (rhs_of g r) → o < q → Spanned r d o q → Derived (lhs_of g r) o q
  whole {r} {d} {o} {q} rule e lt (cs, s) = (_, Rule rule refl lt (subst (λ k. Spans g E r k o q cs) e s))

  -- a folded label leads on from a place whose row is backed
  folded : (o : ℕ) (P : Row) → ((th : Thread) → P th → R o th) → RowBacked o → {x : ℕ} {l : Label} → Folds g IsStart IsKnown W P x l → Leads o x l
  folded o P sub row (Stay part) = record { from = o; below = omega arith; part = λ th w. sub th (part.inside th w); leads = λ q lt d. d }
  folded o P sub row (Up {x = x} {l = l} {th = th} lone e) =
      let (o', b) = row th (sub th lone.inside) in
      let (lt, up) = b.away l e in
      record {
        from = up.from;
        below = (let k = up.below in omega arith);
        part = up.part;
        leads = λ q after d. up.leads q (omega arith) (whole b.rule lone.last (omega arith) (more b.spans lone.waits d));
      }
  folded o P sub row (On {x = x} {l = l} {th = th} lone e f) =
      let (o', b) = row th (sub th lone.inside) in
      let up = folded o P sub row f in
      let same = b.here e in
      record {
        from = up.from;
        below = up.below;
        part = up.part;
        leads = λ q after d. up.leads q after (whole b.rule lone.last after (more (subst (λ z. Spanned th.rule th.dot z o) same b.spans) lone.waits d));
      }

  -- a thread goes on over a symbol that is found from its place on
  behind_over : (o : ℕ) (P : Row) → ((th : Thread) → P th → R o th) → RowBacked o → {th : Thread} {x j : ℕ} {l : Label} → P th → next g th ≡ Some x → o < j → Derived x o j →
      Leaves g IsStart IsKnown W P th l → Backed j (step th (Some l))
  behind_over o P sub row {th} {x} {j} {l} w e lt d (Labelled k) =
      let (o', b) = row th (sub th w) in
      let (lt', up) = b.away l k in
      (o', record { rule = b.rule; spans = more b.spans e d; start = b.start; here = λ z. absurd (some_none refl z); away = λ m z. (omega arith, subst (Leads o' (lhs_of g th.rule)) (same_label refl z) up) })
  behind_over o P sub row {th} {x} {j} {l} w e lt d (Here k f) =
      let (o', b) = row th (sub th w) in
      let same = b.here k in (
        o,
        record {
          rule = b.rule;
          spans = more (subst (λ z. Spanned th.rule th.dot z o) same b.spans) e d;
          start = λ s. (sym same ∙ (b.start s).0, (b.start s).1);
          here = λ z. absurd (some_none refl z);
          away = λ m z. (lt, subst (Leads o (lhs_of g th.rule)) (same_label refl z) (folded o P sub row f));
        },
      )

  module _ (j : ℕ) (before : (i : ℕ) → i < j → RowBacked i) (Seed : Row) (seeds : (th : Thread) → Seed th → Backed j th) where
    backed : {th : Thread} → Reached g IsStart IsKnown W Seed th → Backed j th
    backed (Begin s) = seeds _ s
    backed (Predict {th = th} {x = x} {r = r} h e rule l) = (
      j,
      record {
        rule = rule;
        spans = (NoChild, Nothing);
        start = λ s. absurd (starts.outermost r th.rule th.dot s (e ∙ ap Some (sym l)));
        here = λ z. refl;
        away = λ m z. absurd (some_none z refl);
      },
    )
    backed (Skip {th = th} {x = x} h e null) =
        let (o, b) = backed h in
        (o, record { rule = b.rule; spans = more b.spans e (_, Null null); start = b.start; here = b.here; away = b.away })
    backed (Complete {th = th} {waiting = w} {l = l} {l' = l'} h done e inside waits leaves) =
        let (o, b) = backed h in
        let (lt, up) = b.away l e in
        let k = up.below in
        behind_over up.from (W l.part) up.part (before up.from (omega arith)) inside waits (omega arith) (up.leads j lt (whole b.rule done lt b.spans)) leaves

  first_backed : (th : Thread) → K 0 th → Backed 0 th
  first_backed th k =
      backed 0 (λ i l. absurd (omega arith)) (λ t. (r : ℕ) × Chosen r × (t ≡ begun r))
      (λ t s. (let (r, is, e) = s in (0, subst (λ z. IsBehind 0 z 0) (sym e) (record { rule = starts.rule r (run.chosen r is); spans = (NoChild, Nothing); start = λ z. (refl, is); here = λ z. refl; away = λ m z. absurd (some_none z refl) }))))
      (run.first.closed.reached th k)

  next_backed : (i : ℕ) → i < n → ((p : ℕ) → p < suc i → RowBacked p) → (th : Thread) → K (suc i) th → Backed (suc i) th
  next_backed i lt before th k =
      backed (suc i) before (IsScanned g IsStart IsKnown W (λ x. E x i (suc i)) (R i))
      (λ t s. (let (p, x, l, w, e, reads, leaves, same) = s in
      subst (Backed (suc i)) (sym same) (behind_over i (R i) (λ a h. h) (before i (omega arith)) w e (omega arith) (_, Token reads) leaves)))
      ((run.steps i lt).closed.reached th k)

  -- the rows of all places up to a bound
  rows_backed : (bound j : ℕ) → j ≤ n → j < bound → RowBacked j
  rows_backed zero j le lt th w = absurd (omega arith)
  rows_backed (suc bound) zero le lt th w = first_backed th ((run.first.closed.row th).0 w).0
  rows_backed (suc bound) (suc i) le lt th w = next_backed i (omega arith) (λ p l. rows_backed bound p (omega arith) (omega arith)) th (((run.steps i (omega arith)).closed.row th).0 w).0

  set_backed : (j : ℕ) → j ≤ n → (th : Thread) → K j th → Backed j th
  set_backed zero le th k = first_backed th k
  set_backed (suc i) le th k = next_backed i (omega arith) (λ p l. rows_backed (suc p) p (omega arith) (omega arith)) th k

  -- the parts of a start's rule that are found are derived from place 0 on
  pub sound : (m : ℕ) → m ≤ n → (th : Thread) → K m th → IsStart th.rule → Spanned th.rule th.dot 0 m
  sound m le th k s =
      let (o, b) = set_backed m le th k in
      subst (λ z. Spanned th.rule th.dot z m) (b.start s).0 b.spans

  -- a start's rule that is met is a chosen one
  pub met_chosen : (m : ℕ) → m ≤ n → (th : Thread) → K m th → IsStart th.rule → Chosen th.rule
  met_chosen m le th k s = let (o, b) = set_backed m le th k in (b.start s).1

  -- ---- what is derived is found

  -- what waits for the label's goal has gone on to a place
  abbrev IsFollowed : ℕ → Label → Type 0
  IsFollowed q l = (w : Thread) → W l.part w → next g w ≡ Some l.goal → (l' : Label) × Leaves g IsStart IsKnown W (W l.part) w l' × K q (step w (Some l'))

  -- the thread is in the set, or what it would lead to is
  abbrev Found : ℕ → Thread → Label → Type 0
  Found q th l = K q (step th (Some l)) ⊎ (IsDone g (step th (Some l)) × IsFollowed q l × (IsStart th.rule → ⊥))

  abbrev seed_of : (j : ℕ) → Row
  seed_of zero = λ th. (r : ℕ) × Chosen r × (th ≡ begun r)
  seed_of (suc i) = IsScanned g IsStart IsKnown W (λ x. E x i (suc i)) (R i)

  set : (j : ℕ) → j ≤ n → IsClosed g IsStart IsKnown W (seed_of j) (K j) (R j)
  set zero le = run.first.closed
  set (suc i) le = (run.steps i (omega arith)).closed

  -- a part's folds are the row's
  widen : (P : Row) (s : ℕ) → ((th : Thread) → W s th → P th) → ((low th : Thread) → W s low → low.label ≡ None → P th → next g th ≡ Some (lhs_of g low.rule) → W s th) →
      {y : ℕ} {l : Label} → ((th : Thread) → P th → next g th ≡ Some y → W s th) → Folds g IsStart IsKnown W (W s) y l → Folds g IsStart IsKnown W P y l
  widen P s inside around waits (Stay part) =
      Stay (record {
        known = part.known;
        inside = λ th w. inside th (part.inside th w);
        waits = λ th p e. part.waits th (waits th p e) e;
        around = λ low th w e p a. part.around low th w e (around low th (part.inside low w) e p a) a;
      })
  widen P s inside around waits (Up lone e) =
      Up (record { inside = inside _ lone.inside; waits = lone.waits; last = lone.last; only = λ o p a. lone.only o (waits o p a) a; inner = lone.inner }) e
  widen P s inside around waits (On {th = th} lone e f) =
      On (record { inside = inside _ lone.inside; waits = lone.waits; last = lone.last; only = λ o p a. lone.only o (waits o p a) a; inner = lone.inner }) e
      (widen P s inside around (λ o p a. around th o lone.inside e p a) f)

  -- where a folded label is followed, so is each thread of the row that waits for the symbol
  over_folded : (P : Row) {x q : ℕ} {l : Label} → Folds g IsStart IsKnown W P x l → IsFollowed q l → (w : Thread) → P w → next g w ≡ Some x →
      (l' : Label) × Leaves g IsStart IsKnown W P w l' × Found q w l'
  over_folded P (Stay {s = s} part) f w inside e =
      let here = part.waits w inside e in
      let (l', leaves, k) = f w here e in
      (l', left leaves here, inl k)
    where
      left : {l' : Label} → Leaves g IsStart IsKnown W (W s) w l' → W s w → Leaves g IsStart IsKnown W P w l'
      left (Labelled e) here = Labelled e
      left (Here e f) here = Here e (widen P s part.inside part.around (λ o p a. part.around w o here e p a) f)
  over_folded P {x} {q} {l} (Up {th = th} lone e') f w inside e =
      let same : th ≡ w = sym (lone.only w inside e) in
      (l, subst (λ z. Leaves g IsStart IsKnown W P z l) same (Labelled e'), subst (λ z. Found q z l) same (inr (lone.last, f, lone.inner)))
  over_folded P {x} {q} {l} (On {th = th} lone e' up) f w inside e =
      let same : th ≡ w = sym (lone.only w inside e) in
      (l, subst (λ z. Leaves g IsStart IsKnown W P z l) same (Here e' up), subst (λ z. Found q z l) same (inr (lone.last, f, lone.inner)))

  ahead : {x p q : ℕ} {t : Tree} → Derives g E x p q t → p ≤ q
  ahead (Token {x = x} {p = p} {q = q} s) = let o = by_one x p q s in omega arith
  ahead (Null z) = omega arith
  ahead (Rule rule l lt s) = omega arith

  -- a rule's parts over a span: nothing yet, or found with a label that its left side folds to
  abbrev Along : (r d j q : ℕ) → Type 0
  Along r d j q = ((q ≡ j) × K j (record { rule = r; dot = d; label = None })) ⊎
      ((j < q) × ((l : Label) × Folds g IsStart IsKnown W (R j) (lhs_of g r) l × (K q (record { rule = r; dot = d; label = Some l }) ⊎ ((d ≡ length (rhs_of g r)) × IsFollowed q l))))

  past : (r d j q : ℕ) → q ≤ n → j < q → d ≡ length (rhs_of g r) → Along r d j q → (l : Label) × Folds g IsStart IsKnown W (R j) (lhs_of g r) l × IsFollowed q l
  past r d j q le lt done (inl (e, k)) = absurd (omega arith)
  past r d j q le lt done (inr (lt', (l, folds, inl k))) = (l, folds, λ w. (set q le).completes _ w l k done refl)
  past r d j q le lt done (inr (lt', (l, folds, inr (d', f)))) = (l, folds, f)

  -- what a thread of a set comes to after a symbol
  abbrev GoesOn : (x p q : ℕ) → Type 0
  GoesOn x p q = (th : Thread) → K p th → next g th ≡ Some x → (l : Label) × Leaves g IsStart IsKnown W (R p) th l × Found q th l

  left_label : {P : Row} {th : Thread} {l m : Label} → th.label ≡ Some l → Leaves g IsStart IsKnown W P th m → l ≡ m
  left_label e (Labelled f) = same_label e f
  left_label e (Here f more) = absurd (some_none e f)

  left_folds : {P : Row} {th : Thread} {m : Label} → th.label ≡ None → Leaves g IsStart IsKnown W P th m → Folds g IsStart IsKnown W P (lhs_of g th.rule) m
  left_folds e (Labelled f) = absurd (some_none f e)
  left_folds e (Here f more) = more

  one_more : (r d p m q x : ℕ) → q ≤ n → m ≤ q → (m < q → GoesOn x m q) → (m ≡ q → IsNullable g x) → part_of g r d ≡ Some x → Along r d p m → Along r (suc d) p q
  one_more r d p m q x le below goes null e a = elim (cases_lt m q) [
    | inl lt ↦ far lt a
    | inr ge ↦ let same : m ≡ q = omega arith in subst (Along r (suc d) p) same (still (null same) a)
  ]
    where
      still : IsNullable g x → Along r d p m → Along r (suc d) p m
      still z (inl (s, k)) = inl (s, (set p (omega arith)).skips (record { rule = r; dot = d; label = None }) x k e z)
      still z (inr (lt, (l, folds, inl k))) = inr (lt, (l, folds, inl ((set m (omega arith)).skips (record { rule = r; dot = d; label = Some l }) x k e z)))
      still z (inr (lt, (l, folds, inr (done, f)))) = absurd (past_end (rhs_of g r) d x done e)

      found : (o : Option Label) {l : Label} → Found q (record { rule = r; dot = d; label = o }) l → K q (record { rule = r; dot = suc d; label = Some l }) ⊎ ((suc d ≡ length (rhs_of g r)) × IsFollowed q l)
      found o (inl k) = inl k
      found o (inr (done, f, inner)) = inr (done, f)

      far : m < q → Along r d p m → Along r (suc d) p q
      far lt (inl (s, k)) =
          let (l, leaves, f) = goes lt (record { rule = r; dot = d; label = None }) (subst (λ z. K z (record { rule = r; dot = d; label = None })) (sym s) k) e in
          inr (omega arith, (l, subst (λ z. Folds g IsStart IsKnown W (R z) (lhs_of g r) l) s (left_folds refl leaves), found None f))
      far lt (inr (lt', (l, folds, inl k))) =
          let (l', leaves, f) = goes lt (record { rule = r; dot = d; label = Some l }) k e in
          let same = left_label refl leaves in
          inr (omega arith, (l', subst (λ z. Folds g IsStart IsKnown W (R p) (lhs_of g r) z) same folds, found (Some l) f))
      far lt (inr (lt', (l, folds, inr (done, f)))) = absurd (past_end (rhs_of g r) d x done e)

  null_here : {x p q : ℕ} {t : Tree} → Derives g E x p q t → p ≡ q → IsNullable g x
  null_here (Token {x = x} {p = p} {q = q} s) e = let o = by_one x p q s in absurd (omega arith)
  null_here (Null z) e = z
  null_here (Rule rule l lt s) e = absurd (omega arith)

  mutual
    -- a thread that waits for the symbol goes on after what it derives
    over_symbol : {x p q : ℕ} {t : Tree} → Derives g E x p q t → q ≤ n → p < q → GoesOn x p q
    over_symbol (Token {x = x} {p = p} {q = q} s) le lt th k e =
        let o = by_one x p q s in
        let (l, leaves, k') = (run.steps p (omega arith)).scans th x (((set p (omega arith)).row th).1 (k, (x, e))) e (subst (E x p) o s) in
        (l, leaves, inl (subst (λ z. K z (step th (Some l))) (sym o) k'))
    over_symbol (Null z) le lt th k e = absurd (omega arith)
    over_symbol (Rule {x = x} {p = p} {q = q} {r = r} rule lhs lt' s) le lt th k e =
        let here = set p (omega arith) in
        let (l, folds, f) = past r (length (rhs_of g r)) p q le lt refl (over_parts s le (here.predicts th x r k e rule lhs)) in
        over_folded (R p) (subst (λ z. Folds g IsStart IsKnown W (R p) z l) lhs folds) f th ((here.row th).1 (k, (x, e))) e

    over_parts : {r d p q : ℕ} {cs : Children} → Spans g E r d p q cs → q ≤ n → K p (begun r) → Along r d p q
    over_parts Nothing le k = inl (refl, k)
    over_parts (More {r = r} {d = d} {p = p} {m = m} {q = q} {x = x} s e t) le k =
        let below = ahead t in
        one_more r d p m q x le below (λ lt. over_symbol t le lt) (null_here t) e (over_parts s (omega arith) k)

  -- what a start's rule spans from place 0 on is found
  pub complete : (r x m : ℕ) → Chosen r → part_of g r 0 ≡ Some x → 0 < m → m ≤ n → Derived x 0 m → (l : Label) × K m (record { rule = r; dot = 1; label = Some l })
  complete r x m start e some le (t, d) =
      let (l, leaves, f) = over_symbol d le some (begun r) (run.first.starts r start) e in
      (l, there f)
    where
      there : {l : Label} → Found m (begun r) l → K m (record { rule = r; dot = 1; label = Some l })
      there (inl k) = k
      there (inr (done, f, inner)) = absurd (inner (run.chosen r start))

  -- ---- where no thread reads on, nothing longer is derived

  module _ (p : ℕ) (inside : p ≤ n) (none : (th : Thread) (x : ℕ) → R p th → next g th ≡ Some x → E x p (suc p) → ⊥) where
    mutual
      not_past : {x m q : ℕ} {t : Tree} → Derives g E x m q t → m ≤ p → p < q → (th : Thread) → K m th → next g th ≡ Some x → ⊥
      not_past (Token {x = x} {p = m} {q = q} s) le lt th k e =
          let o = by_one x m q s in
          let same : m ≡ p = omega arith in
          none th x (((set p inside).row th).1 (subst (λ z. K z th) same k, (x, e))) e (subst (λ z. E x z (suc z)) same (subst (E x m) o s))
      not_past (Null z) le lt th k e = absurd (omega arith)
      not_past (Rule {x = x} {p = m} {q = q} {r = r} rule lhs lt' s) le lt th k e =
          parts_not_past s le lt ((set m (omega arith)).predicts th x r k e rule lhs)

      parts_not_past : {r d m q : ℕ} {cs : Children} → Spans g E r d m q cs → m ≤ p → p < q → K m (begun r) → ⊥
      parts_not_past Nothing le lt k = absurd (omega arith)
      parts_not_past (More {r = r} {d = d} {p = m} {m = i} {q = q} {x = x} s e t) le lt k = elim (cases_lt p i) [
        | inl beyond ↦ parts_not_past s le beyond k
        | inr below ↦ elim (over_parts s (omega arith) k) [
          | inl (same, here) ↦ not_past t (omega arith) lt (record { rule = r; dot = d; label = None }) (subst (λ z. K z (record { rule = r; dot = d; label = None })) (sym same) here) e
          | inr (lt', (l, folds, inl here)) ↦ not_past t (omega arith) lt (record { rule = r; dot = d; label = Some l }) here e
          | inr (lt', (l, folds, inr (done, f))) ↦ past_end (rhs_of g r) d x done e
        ]
      ]

    pub stops : (r x m : ℕ) → Chosen r → part_of g r 0 ≡ Some x → Derived x 0 m → m ≤ p
    stops r x m start e (t, d) = elim (cases_lt p m) [
      | inl lt ↦ absurd (not_past d (omega arith) lt (begun r) (run.first.starts r start) e)
      | inr le ↦ le
    ]

-- the rows of some starts, over edges of terminals: which of them match up to a place
module _ (g : FlatGrammar) (flat : IsFlat g) (E : Edges) (only : OnlyTerminals g E) (by_one : (x p q : ℕ) → E x p q → q ≡ suc p) (IsKnown : ℕ → Type 0) (W : Parts) (K R : ℕ → Row) (n : ℕ) (tops : List ℕ) where
  are_starts : AreStarts g (IsTopRule g)
  are_starts = record {
    rule = λ r (k, e). (flat.tops k r e).is_top.is_rule;
    outermost = λ r s position (k, e). (flat.tops k r e).is_top.outermost s position;
  }

  abbrev pub IsDerived : (x m : ℕ) → Type 0
  IsDerived x m = (t : Tree) × ViewDerives (grammar_view g) E (slot_of x) 0 m t

  -- no other start's rule is met
  pub rows_chosen : IsRun g E (IsTopRule g) IsKnown (IsChosen g tops) W K R n → (m : ℕ) → m ≤ n → (th : Thread) → K m th → IsTopRule g th.rule → IsChosen g tops th.rule
  rows_chosen run m le th k top = met_chosen g E (IsTopRule g) IsKnown (IsChosen g tops) W K R n are_starts by_one run m le th k top

  module _ (run : IsRun g E (IsTopRule g) IsKnown (IsChosen g tops) W K R n) (k r x : ℕ) (looked : Contains tops k) (top : slice_get g.tops k ≡ Some r) (symbol : part_of g r 0 ≡ Some x) where
    to_flat : (m : ℕ) → IsDerived x m → (t : Tree) × Derives g E x 0 m t
    to_flat m (t, d) = (t, symbol_back g flat.marks E only flat.no_rules flat.terminals_span t (slot_of x) 0 m d)

    -- a start matches up to the place exactly where its rule is done there
    pub rows_match : (m : ℕ) → 0 < m → m ≤ n → ((l : Label) × K m (record { rule = r; dot = 1; label = Some l })) ↔ IsDerived x m
    rows_match m some le = (there, λ d. complete g E (IsTopRule g) IsKnown (IsChosen g tops) W K R n are_starts by_one run r x m (k, looked, top) symbol some le (to_flat m d))
      where
        one : Spanned g E (IsTopRule g) IsKnown (IsChosen g tops) W K R n are_starts by_one run r 1 0 m → IsDerived x m
        one (cs, More {x = y} {t = t} Nothing e d) = let s : y ≡ x = cc in (t, symbol_viewed g flat.marks E only flat.no_rules flat.terminals_span (subst (λ z. Derives g E z 0 m t) s d))

        there : (l : Label) × K m (record { rule = r; dot = 1; label = Some l }) → IsDerived x m
        there (l, h) = one (sound g E (IsTopRule g) IsKnown (IsChosen g tops) W K R n are_starts by_one run m le _ h (k, top))

    pub rows_stop : (p : ℕ) → p ≤ n → ((th : Thread) (y : ℕ) → R p th → next g th ≡ Some y → E y p (suc p) → ⊥) → (m : ℕ) → IsDerived x m → m ≤ p
    rows_stop p le none m d = stops g E (IsTopRule g) IsKnown (IsChosen g tops) W K R n are_starts by_one run p le none r x m (k, looked, top) symbol (to_flat m d)

-- the same, of lists
module _ (g : FlatGrammar) (flat : IsFlat g) (E : Edges) (only : OnlyTerminals g E) (by_one : (x p q : ℕ) → E x p q → q ≡ suc p) (parts : List (List Thread)) (starts : List ℕ) (sets rows : ℕ → List Thread) (n : ℕ)
    (run : IsRunOf g E parts starts sets rows n) where
  symbol_of : (r : ℕ) → IsChosen g starts r → part_of g r 0 ≡ Some (slice_index (rhs_of g r) 0)
  symbol_of r (k, looked, top) = get_first (rhs_of g r) (let o = (flat.tops k r top).one in omega arith)
    where
      get_first : (xs : List ℕ) → 0 < length xs → slice_get xs 0 ≡ Some (slice_index xs 0)
      get_first [] lt = absurd (omega arith)
      get_first (y ∷ ys) lt = refl

  pub rows_tell : RowsTell g E starts sets rows n
  rows_tell = record {
    matches = λ r m chosen some le. (let (k, looked, top) = chosen in
        rows_match g flat E only by_one (IsPlace parts) (PartAt g parts) (λ i. Contains (sets i)) (λ i. Waiting g (rows i)) n starts run k r (slice_index (rhs_of g r) 0) looked top (symbol_of r chosen) m some le);
    chosen = λ th m le c top. rows_chosen g flat E only by_one (IsPlace parts) (PartAt g parts) (λ i. Contains (sets i)) (λ i. Waiting g (rows i)) n starts run m le th c top;
    stops = λ r p chosen le none m d. (let (k, looked, top) = chosen in
        rows_stop g flat E only by_one (IsPlace parts) (PartAt g parts) (λ i. Contains (sets i)) (λ i. Waiting g (rows i)) n starts run k r (slice_index (rhs_of g r) 0) looked top (symbol_of r chosen) p le none m d);
  }

-- ---- one part more changes no step

module _ (g : FlatGrammar) (IsStart IsKnown IsKnownNow : ℕ → Type 0) (W V : Parts) (kept : (s : ℕ) → IsKnown s → IsKnownNow s)
    (same : (s : ℕ) → IsKnown s → (th : Thread) → W s th ↔ V s th) where
  abbrev pub HasKnown : Row → Type 0
  HasKnown R = (th : Thread) (l : Label) → R th → th.label ≡ Some l → IsKnown l.part

  module _ (whole : (s : ℕ) → IsKnown s → HasKnown (W s)) where
    -- of threads with known labels the folded labels are known
    known_fold : (R : Row) → HasKnown R → {x : ℕ} {l : Label} → Folds g IsStart IsKnown W R x l → IsKnown l.part
    known_fold R known (Stay part) = part.known
    known_fold R known (Up {l = l} {th = th} lone e) = known th l lone.inside e
    known_fold R known (On lone e f) = known_fold R known f

    known_left : (R : Row) → HasKnown R → {th : Thread} {l : Label} → R th → Leaves g IsStart IsKnown W R th l → IsKnown l.part
    known_left R known {th} {l} inside (Labelled e) = known th l inside e
    known_left R known inside (Here e f) = known_fold R known f

    fold_grown : (R Q : Row) → ((th : Thread) → R th ↔ Q th) → {x : ℕ} {l : Label} → Folds g IsStart IsKnown W R x l → Folds g IsStart IsKnownNow V Q x l
    fold_grown R Q both (Stay {s = s} part) = Stay (record {
      known = kept s part.known;
      inside = λ th v. (both th).0 (part.inside th ((same s part.known th).1 v));
      waits = λ th q e. (same s part.known th).0 (part.waits th ((both th).1 q) e);
      around = λ low th v e q a. (same s part.known th).0 (part.around low th ((same s part.known low).1 v) e ((both th).1 q) a);
    })
    fold_grown R Q both (Up {th = th} lone e) =
        Up (record { inside = (both th).0 lone.inside; waits = lone.waits; last = lone.last; only = λ o q a. lone.only o ((both o).1 q) a; inner = lone.inner }) e
    fold_grown R Q both (On {th = th} lone e f) =
        On (record { inside = (both th).0 lone.inside; waits = lone.waits; last = lone.last; only = λ o q a. lone.only o ((both o).1 q) a; inner = lone.inner }) e (fold_grown R Q both f)

    left_grown : (R Q : Row) → ((th : Thread) → R th ↔ Q th) → {th : Thread} {l : Label} → Leaves g IsStart IsKnown W R th l → Leaves g IsStart IsKnownNow V Q th l
    left_grown R Q both (Labelled e) = Labelled e
    left_grown R Q both (Here e f) = Here e (fold_grown R Q both f)

    module _ (Seed Next : Row) (seeds : HasKnown Seed) (next_seeds : (th : Thread) → Seed th → Next th) where
      known_reached : {th : Thread} → Reached g IsStart IsKnown W Seed th → (l : Label) → th.label ≡ Some l → IsKnown l.part
      known_reached (Begin s) l e = seeds _ l s e
      known_reached (Predict h e rule lhs) l e' = cc
      known_reached (Skip h e null) l e' = known_reached h l e'
      known_reached (Complete {waiting = w} {l = l} {l' = l'} h done e inside waits leaves) m e' =
          let k = whole l.part (known_reached h l e) in
          let same_one : l' ≡ m = cc in
          subst (λ z. IsKnown z.part) same_one (known_left (W l.part) k inside leaves)

      reached_grown : {th : Thread} → Reached g IsStart IsKnown W Seed th → Reached g IsStart IsKnownNow V Next th
      reached_grown (Begin s) = Begin (next_seeds _ s)
      reached_grown (Predict h e rule lhs) = Predict (reached_grown h) e rule lhs
      reached_grown (Skip h e null) = Skip (reached_grown h) e null
      reached_grown (Complete {waiting = w} {l = l} {l' = l'} h done e inside waits leaves) =
          let k = known_reached h l e in
          Complete (reached_grown h) done e ((same l.part k w).0 inside) waits (left_grown (W l.part) (V l.part) (same l.part k) leaves)

      pub closed_grown : (K R : Row) → IsClosed g IsStart IsKnown W Seed K R → IsClosed g IsStart IsKnownNow V Next K R
      closed_grown K R c = record {
        reached = λ th k. reached_grown (c.reached th k);
        predicts = c.predicts;
        skips = c.skips;
        completes = λ th w l k done e inside waits. (
            let known = known_reached (c.reached th k) l e in
            let (l', leaves, here) = c.completes th w l k done e ((same l.part known w).1 inside) waits in
            (l', left_grown (W l.part) (V l.part) (same l.part known) leaves, here));
        row = c.row;
      }

    pub step_grown : (Reads : ℕ → Type 0) (R K Q : Row) → HasKnown R → IsStep g IsStart IsKnown W Reads R K Q → IsStep g IsStart IsKnownNow V Reads R K Q
    step_grown Reads R K Q known s = record {
      scans = λ th x inside e reads. (let (l, leaves, k) = s.scans th x inside e reads in (l, left_grown R R (λ z. ((λ h. h), (λ h. h))) leaves, k));
      closed = closed_grown (IsScanned g IsStart IsKnown W Reads R) (IsScanned g IsStart IsKnownNow V Reads R)
          (λ th m (low, x, l, inside, e, reads, leaves, is) e'. (
          let at : (step low (Some l)).label ≡ Some m = ap (λ (z : Thread). z.label) (sym is) ∙ e' in
          let same_one : l ≡ m = cc in
          subst (λ z. IsKnown z.part) same_one (known_left R known inside leaves)))
          (λ th (low, x, l, inside, e, reads, leaves, is). (low, x, l, inside, e, reads, left_grown R R (λ z. ((λ h. h), (λ h. h))) leaves, is))
          K Q s.closed;
    }
