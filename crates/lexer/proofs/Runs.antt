-- Runs: one place more, and what their rows tell of matches.
use Rattle.std.proofs.Common.{◌≡◌, ◌↔◌, ◌⊎◌, inl, inr, ℕ, suc, ◌+◌, ◌<◌, ◌≤◌, List, length, get_or, Some, Contains, slice_get, refl, sym, ◌∙◌, subst, arith}
use Rattle.std.specs.Prelude.{slice_index}
use Rattle.std.proofs.lemmas.Bool.{cases_lt}
use Rattle.std.proofs.lemmas.Option.{slice_get-get_or}
use Rattle.finite_sets.proofs.Lists.{got_at}
use Rattle.recognizer_model.specs.declared.thread.Thread.{Thread}
use Rattle.recognizer_model.specs.Flat.{FlatGrammar}
use Rattle.recognizer_model.specs.Invariant.{IsFlat}
use Rattle.recognizer_model.specs.Threads.{Row, next, Reached, Begin, Predict, Skip, Complete, IsScanned, IsStep, IsFirst, IsTopRule, IsChosen, Waiting, IsPlace, PartAt, RowsTell, IsDerivedTo}
use Rattle.recognizer_model.proofs.Threads.{rows_tell}
use Rattle.language_model.specs.Classes.{HasMember}
use Rattle.threads.specs.Lists.{IsGrown}
use Rattle.threads.specs.Steps.{Keeps, IsReadBy, IsNext, IsBegin}
use Rattle.threads.proofs.Parts.{grown_same, grown_on}
use Rattle.lexer.specs.Lexical.{LexicalForm, HasMatch}
use Rattle.lexer.specs.Terminals.{AreTerminalsOf}
use Rattle.lexer.specs.Machines.{IsMatch}
use Rattle.lexer.specs.Reading.{EdgesFrom, HasRun, IsDoneIn, IsBestTo, IsBestRow}
use Rattle.lexer.proofs.Moving.{by_one, terminals, match_derived, derived_match}

-- ---- a list more after a place

abbrev pick : {P Q : Type 0} → P ⊎ Q → List Thread → List Thread → List Thread
pick (inl p) a b = a
pick (inr q) a b = b

abbrev put : (ℕ → List Thread) → ℕ → List Thread → ℕ → List Thread
put f n x i = pick (cases_lt i n) (f i) x

put_below : (f : ℕ → List Thread) (n : ℕ) (x : List Thread) (i : ℕ) → i < n → put f n x i ≡ f i
put_below f n x i lt = go (cases_lt i n)
  where
    go : (c : (i < n) ⊎ (n ≤ i)) → pick c (f i) x ≡ f i
    go (inl l) = refl
    go (inr ge) = absurd (omega arith)

put_at : (f : ℕ → List Thread) (n : ℕ) (x : List Thread) (i : ℕ) → n ≤ i → put f n x i ≡ x
put_at f n x i le = go (cases_lt i n)
  where
    go : (c : (i < n) ⊎ (n ≤ i)) → pick c (f i) x ≡ x
    go (inl l) = absurd (omega arith)
    go (inr ge) = refl

-- ---- the same step by other words

module _ (g : FlatGrammar) (parts : List (List Thread)) where
  abbrev Steps : (ℕ → Type 0) → Row → Row → Row → Type 0
  Steps Reads R K Q = IsStep g (IsTopRule g) (IsPlace parts) (PartAt g parts) Reads R K Q

  reached_from : (Seed Next : Row) → ((th : Thread) → Seed th → Next th) → {th : Thread} → Reached g (IsTopRule g) (IsPlace parts) (PartAt g parts) Seed th → Reached g (IsTopRule g) (IsPlace parts) (PartAt g parts) Next th
  reached_from Seed Next sub (Begin s) = Begin (sub _ s)
  reached_from Seed Next sub (Predict h e rule l) = Predict (reached_from Seed Next sub h) e rule l
  reached_from Seed Next sub (Skip h e n) = Skip (reached_from Seed Next sub h) e n
  reached_from Seed Next sub (Complete h done at inside waits leaves) = Complete (reached_from Seed Next sub h) done at inside waits leaves

  reads_same : (Reads Others : ℕ → Type 0) (R K Q : Row) → ((x : ℕ) → Reads x ↔ Others x) → Steps Reads R K Q → Steps Others R K Q
  reads_same Reads Others R K Q both s = record {
    scans = λ th x w e r. s.scans th x w e ((both x).1 r);
    closed = record {
      reached = λ th k. reached_from (IsScanned g (IsTopRule g) (IsPlace parts) (PartAt g parts) Reads R) (IsScanned g (IsTopRule g) (IsPlace parts) (PartAt g parts) Others R)
          (λ o (low, x, l, w, e, r, leaves, is). (low, x, l, w, e, (both x).0 r, leaves, is)) (s.closed.reached th k);
      predicts = s.closed.predicts;
      skips = s.closed.skips;
      completes = s.closed.completes;
      row = s.closed.row;
    };
  }

-- ---- runs

module _ (l : LexicalForm) (text : List ℕ) (at : ℕ) (starts : List ℕ) where
  abbrev StepAt : (parts : List (List Thread)) (i : ℕ) (row set new : List Thread) → Type 0
  StepAt parts i row set new = IsStep l.flat (IsTopRule l.flat) (IsPlace parts) (PartAt l.flat parts) (λ x. EdgesFrom l text at x i (suc i)) (Waiting l.flat row) (Contains set) (Waiting l.flat new)

  step_as : (parts : List (List Thread)) (i : ℕ) (row row' set set' new new' : List Thread) → row ≡ row' → set ≡ set' → new ≡ new' → StepAt parts i row set new → StepAt parts i row' set' new'
  step_as parts i row row' set set' new new' a b c s = subst (λ z. StepAt parts i row' set' z) c (subst (λ z. StepAt parts i row' z new) b (subst (λ z. StepAt parts i z set new) a s))

  pub run_begins : (parts : List (List Thread)) (set row : List Thread) → IsBegin l.flat parts starts set row → HasRun l text at starts parts row 0
  run_begins parts set row b = record {
    sets = λ i. set;
    rows = λ i. row;
    runs = λ later grown. record {
      chosen = λ r (k, looked, e). (k, e);
      first = b.begins later grown;
      steps = λ i lt. absurd (omega arith);
    };
    keeps = b.keeps;
    last = refl;
  }

  -- the same run, with more parts
  pub run_later : (old new : List (List Thread)) (row : List Thread) (n : ℕ) → IsGrown old new → HasRun l text at starts old row n → HasRun l text at starts new row n
  run_later old new row n grown h = record { sets = h.sets; rows = h.rows; runs = λ later more. h.runs later (grown_on old new later grown more); keeps = h.keeps; last = h.last }

  module _ (parts : List (List Thread)) (row : List Thread) (n : ℕ) (h : HasRun l text at starts parts row n) where
    module _ (set new : List Thread) (keeps : Keeps l.flat set new) (steps : (later : List (List Thread)) → IsGrown parts later → StepAt later n row set new) where
      pub run_more : HasRun l text at starts parts new (suc n)
      run_more = record {
        sets = put h.sets (suc n) set;
        rows = put h.rows (suc n) new;
        runs = λ later grown. record {
          chosen = (h.runs later grown).chosen;
          first =
              subst (λ z. IsFirst l.flat (IsTopRule l.flat) (IsPlace later) (PartAt l.flat later) (IsChosen l.flat starts) (Contains z) (Waiting l.flat (put h.rows (suc n) new 0))) (sym (put_below h.sets (suc n) set 0 (omega arith)))
              (subst (λ z. IsFirst l.flat (IsTopRule l.flat) (IsPlace later) (PartAt l.flat later) (IsChosen l.flat starts) (Contains (h.sets 0)) (Waiting l.flat z)) (sym (put_below h.rows (suc n) new 0 (omega arith))) (h.runs later grown).first);
          steps = λ i lt. one later grown i lt (cases_lt i n);
        };
        keeps =
            subst (λ z. Keeps l.flat z (put h.rows (suc n) new (suc n))) (sym (put_at h.sets (suc n) set (suc n) (omega arith)))
            (subst (λ z. Keeps l.flat set z) (sym (put_at h.rows (suc n) new (suc n) (omega arith))) keeps);
        last = put_at h.rows (suc n) new (suc n) (omega arith);
      }
        where
          one : (later : List (List Thread)) → IsGrown parts later → (i : ℕ) → i < suc n → (i < n) ⊎ (n ≤ i) → StepAt later i (put h.rows (suc n) new i) (put h.sets (suc n) set (suc i)) (put h.rows (suc n) new (suc i))
          one later grown i lt (inl below) =
              step_as later i (h.rows i) (put h.rows (suc n) new i) (h.sets (suc i)) (put h.sets (suc n) set (suc i)) (h.rows (suc i)) (put h.rows (suc n) new (suc i))
              (sym (put_below h.rows (suc n) new i lt)) (sym (put_below h.sets (suc n) set (suc i) (omega arith))) (sym (put_below h.rows (suc n) new (suc i) (omega arith)))
              ((h.runs later grown).steps i below)
          one later grown i lt (inr ge) =
              let same : n ≡ i = omega arith in
              subst (λ z. StepAt later z (put h.rows (suc n) new z) (put h.sets (suc n) set (suc z)) (put h.rows (suc n) new (suc z))) same
              (step_as later n row (put h.rows (suc n) new n) set (put h.sets (suc n) set (suc n)) new (put h.rows (suc n) new (suc n))
              (sym (put_below h.rows (suc n) new n (omega arith) ∙ h.last)) (sym (put_at h.sets (suc n) set (suc n) (omega arith))) (sym (put_at h.rows (suc n) new (suc n) (omega arith)))
              (steps later grown))

    -- the next row is that of the next character's terminals
    pub run_next : at + n < length text → (ts : List ℕ) → AreTerminalsOf l.sets (slice_index text (at + n)) ts → (set new : List Thread) → IsNext l.flat parts (IsReadBy l.flat ts) row set new → HasRun l text at starts parts new (suc n)
    run_next inside ts exact set new is = run_more set new is.keeps
        (λ later grown. reads_same l.flat later (IsReadBy l.flat ts) (λ x. EdgesFrom l text at x n (suc n)) (Waiting l.flat row) (Contains set) (Waiting l.flat new) both (is.steps later grown))
      where
        both : (x : ℕ) → IsReadBy l.flat ts x ↔ EdgesFrom l text at x n (suc n)
        both x = (
          λ (t, e, c). (let (set, k, m) = (exact t).0 c in (t, e, (omega arith, (slice_index text (at + n), slice_get-get_or text (at + n) 0 inside, (set, k, m))))),
          λ (t, e, (to, (c, get, (set, k, m)))). (t, e, (exact t).1 (set, k, subst (HasMember set) (sym (got_at text (at + n) c 0 (sym get)).1) m)),
        )

    -- ---- matches

    module _ (flat : IsFlat l.flat) where
      tell : RowsTell l.flat (EdgesFrom l text at) starts h.sets h.rows n
      tell = rows_tell l.flat flat (EdgesFrom l text at) (terminals l text at) (by_one l text at) parts starts h.sets h.rows n (h.runs parts (grown_same parts))

      kept : (th : Thread) → IsTopRule l.flat th.rule → Contains row th ↔ Contains (h.sets n) th
      kept th top = (
        λ c. ((h.keeps th).0 (subst (λ z. Contains z th) (sym h.last) c)).0,
        λ c. subst (λ z. Contains z th) h.last ((h.keeps th).1 (c, inr top)),
      )

      derived : (k r : ℕ) → slice_get l.flat.tops k ≡ Some r → (m : ℕ) → HasMatch l text k at (at + m) ↔ IsDerivedTo l.flat (EdgesFrom l text at) r m
      derived k r top m =
          let same : slice_index l.flat.tops k ≡ r = (got_at l.flat.tops k r 0 (sym top)).1 in (
            λ h. subst (λ z. IsDerivedTo l.flat (EdgesFrom l text at) z m) same (match_derived l text at k m h),
            λ d. derived_match l text at k m (subst (λ z. IsDerivedTo l.flat (EdgesFrom l text at) z m) (sym same) d),
          )

      -- a start's rule is done just where the start matches
      pub done_matches : (k r : ℕ) → Contains starts k → slice_get l.flat.tops k ≡ Some r → 0 < n → IsDoneIn l.flat row k ↔ HasMatch l text k at (at + n)
      done_matches k r looked top some = (
        λ (th, c, (dot, (label, labelled), is_top), e). (
            let same : th.rule ≡ r = cc in
            let is : th ≡ record { rule = r; dot = 1; label = Some label } = λ i. record { rule = same i; dot = dot i; label = labelled i } in
            (derived k r top n).1 ((tell.matches r n (k, looked, top) some (omega arith)).0 (label, subst (Contains (h.sets n)) is ((kept th is_top).0 c)))),
        λ m. (
            let (label, c) = (tell.matches r n (k, looked, top) some (omega arith)).1 ((derived k r top n).0 m) in
            (record { rule = r; dot = 1; label = Some label }, (kept (record { rule = r; dot = 1; label = Some label }) (k, top)).1 c, (refl, (label, refl), (k, top)), top)),
      )

      pub chosen_done : (th : Thread) → Contains row th → IsMatch l.flat th → (k : ℕ) × Contains starts k × IsDoneIn l.flat row k
      chosen_done th c m =
          let (k, looked, e) = tell.chosen th n (omega arith) ((kept th m.2).0 c) m.2 in
          (k, looked, (th, c, m, e))

      -- where nothing reads on, no match is longer
      pub stops : ((th : Thread) (x : ℕ) → Waiting l.flat row th → next l.flat th ≡ Some x → EdgesFrom l text at x n (suc n) → ⊥) → (k r : ℕ) → Contains starts k → slice_get l.flat.tops k ≡ Some r → (m : ℕ) → HasMatch l text k at (at + m) → m ≤ n
      stops none k r looked top m match =
          tell.stops r n (k, looked, top) (omega arith) (λ th x w e edge. none th x (subst (λ z. Waiting l.flat z th) h.last w) e edge) m ((derived k r top m).0 match)

-- ---- the longest match so far

module _ (l : LexicalForm) (text : List ℕ) (at : ℕ) (starts : List ℕ) where
  pub best_none : (row : List Thread) → IsBestTo l text at starts 0 row 0
  best_none row = record { within = omega arith; longest = λ k m le c h. le; some = λ lt. absurd (omega arith); exact = λ lt. absurd (omega arith) }

  module _ (flat : IsFlat l.flat) (known : (k : ℕ) → Contains starts k → k < length l.flat.tops) (parts : List (List Thread)) (row : List Thread) where
    top : (k : ℕ) → Contains starts k → slice_get l.flat.tops k ≡ Some (get_or l.flat.tops k 0)
    top k c = slice_get-get_or l.flat.tops k 0 (known k c)

    module _ (p : ℕ) (h : HasRun l text at starts parts row (suc p)) where
      pub best_here : ((th : Thread) × Contains row th × IsMatch l.flat th) → IsBestTo l text at starts (suc p) row (suc p)
      best_here (th, c, m) = record {
        within = omega arith;
        longest = λ k m le c h. le;
        some = λ lt. chosen_done l text at starts parts row (suc p) h flat th c m;
        exact = λ lt k looked. done_matches l text at starts parts row (suc p) h flat k (get_or l.flat.tops k 0) looked (top k looked) lt;
      }

      pub best_before : (((th : Thread) × Contains row th × IsMatch l.flat th) → ⊥) → (best : List Thread) (n : ℕ) → IsBestTo l text at starts p best n → IsBestTo l text at starts (suc p) best n
      best_before none best n b = record {
        within = let w = b.within in omega arith;
        longest = λ k m le looked match. elim (cases_lt m (suc p)) [
          | inl lt ↦ b.longest k m (omega arith) looked match
          | inr ge ↦
              let same : m ≡ suc p = omega arith in
              let (th, c, is, e) = (done_matches l text at starts parts row (suc p) h flat k (get_or l.flat.tops k 0) looked (top k looked) (omega arith)).1 (subst (λ z. HasMatch l text k at (at + z)) same match) in
              absurd (none (th, c, is))
        ];
        some = b.some;
        exact = b.exact;
      }

    pub best_done : (p : ℕ) → HasRun l text at starts parts row p → ((th : Thread) (x : ℕ) → Waiting l.flat row th → next l.flat th ≡ Some x → EdgesFrom l text at x p (suc p) → ⊥) →
        (best : List Thread) (n : ℕ) → IsBestTo l text at starts p best n → IsBestRow l text at starts best n
    best_done p h none best n b = record {
      longest = λ k m looked match. b.longest k m (stops l text at starts parts row p h flat none k (get_or l.flat.tops k 0) looked (top k looked) m match) looked match;
      some = b.some;
      exact = b.exact;
    }

  -- no edge begins at the end
  pub no_edge : (p x : ℕ) → length text ≤ at + p → EdgesFrom l text at x p (suc p) → ⊥
  no_edge p x end (t, e, (to, (c, get, more))) = let (lt, same) = got_at text (at + p) c 0 (sym get) in omega arith
