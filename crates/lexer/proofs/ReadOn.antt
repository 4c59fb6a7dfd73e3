-- A machine that reads a text, one character more, and the answer in the end.
use Rattle.std.proofs.Common.{◌≡◌, ◌↔◌, ℕ, suc, ◌+◌, ◌<◌, ◌≤◌, true, false, List, length, Some, Contains, refl, sym, ◌∙◌, subst, arith}
use Rattle.std.specs.Prelude.{slice_index}
use Rattle.std.specs.List.Sorted.{IsStrictlySortedBy}
use Rattle.std.specs.Ordering.{nat_cmp}
use Rattle.recognizer_model.specs.declared.thread.Thread.{Thread}
use Rattle.recognizer_model.specs.Invariant.{IsFlat}
use Rattle.recognizer_model.specs.Threads.{next, Waiting}
use Rattle.threads.specs.Lists.{list_at}
use Rattle.threads.specs.Steps.{IsReadBy, IsNext, IsBegin}
use Rattle.threads.proofs.Parts.{grown_same, grown_on, grown_long, grown_at}
use Rattle.lexer.specs.declared.kinds.Kind.{Kind}
use Rattle.lexer.specs.declared.machine.Machine.{Machine}
use Rattle.lexer.specs.Lexical.{LexicalForm, IsLongestMatch, IsUnmatched}
use Rattle.lexer.specs.Terminals.{AreTerminalsOf}
use Rattle.lexer.specs.Machines.{IsKindOf, form_of, IsStepOver, IsMachine, Goes}
use Rattle.lexer.specs.Reading.{EdgesFrom, HasRun, IsDoneIn, IsBestTo, IsBestRow}
use Rattle.lexer.proofs.Runs.{run_begins, run_later, run_next, best_none, best_here, best_before, best_done, no_edge}

pub goes_same : (m : Machine) → IsMachine m → Goes m m
goes_same m is = record { is = is; form = refl; parts = grown_same m.parts; rows = grown_same m.rows }

pub goes_on : (a b c : Machine) → Goes a b → Goes b c → Goes a c
goes_on a b c g h = record { is = h.is; form = h.form ∙ g.form; parts = grown_on a.parts b.parts c.parts g.parts h.parts; rows = grown_on a.rows b.rows c.rows g.rows h.rows }

pub record IsReading (l : LexicalForm) (text : List ℕ) (at : ℕ) (candidates : List ℕ) (old m : Machine) (state place best length_there : ℕ) : Type 0 where
  pub goes : Goes old m
  pub inside : state < length m.rows
  pub run : HasRun l text at candidates m.parts (list_at m.rows state) place
  pub there : best < length m.rows
  pub longest : IsBestTo l text at candidates place (list_at m.rows best) length_there

module _ (l : LexicalForm) (text : List ℕ) (at : ℕ) (candidates : List ℕ) (old : Machine) (form : form_of old ≡ l) (flat : IsFlat l.flat) (known : (k : ℕ) → Contains candidates k → k < length l.flat.tops) where
  pub reading_begins : IsMachine old → (first : ℕ) → first < length old.rows → ((set : List Thread) × IsBegin old.flat.now old.parts candidates set (list_at old.rows first)) → IsReading l text at candidates old old first 0 first 0
  reading_begins is first lt begins =
      let (set, b) = subst (λ (f : LexicalForm). (set : List Thread) × IsBegin f.flat old.parts candidates set (list_at old.rows first)) form begins in
      record {
        goes = goes_same old is;
        inside = lt;
        run = run_begins l text at candidates old.parts set (list_at old.rows first) b;
        there = lt;
        longest = best_none l text at candidates (list_at old.rows first);
      }

  module _ (mid : Machine) (state place best n : ℕ) (h : IsReading l text at candidates old mid state place best n) where
    form_of_mid : form_of mid ≡ l
    form_of_mid = h.goes.form ∙ form

    module _ (new : Machine) (to ch : ℕ) (goes : Goes mid new) (there : to < length new.rows) (step : IsStepOver new state ch to) (ch_is : ch ≡ slice_index text (at + place)) (inside : at + place < length text) where
      form_of_new : form_of new ≡ l
      form_of_new = goes.form ∙ form_of_mid

      run : HasRun l text at candidates new.parts (list_at new.rows to) (suc place)
      run =
          let (ts, exact, (set, is)) = subst (λ (f : LexicalForm). (ts : List ℕ) × AreTerminalsOf f.sets ch ts × ((set : List Thread) × IsNext f.flat new.parts (IsReadBy f.flat ts) (list_at new.rows state) set (list_at new.rows to))) form_of_new step in
          run_next l text at candidates new.parts (list_at new.rows state) place
          (subst (λ z. HasRun l text at candidates new.parts z place) (sym (grown_at mid.rows new.rows goes.rows state h.inside)) (run_later l text at candidates mid.parts new.parts (list_at mid.rows state) place goes.parts h.run))
          inside ts (subst (λ z. AreTerminalsOf l.sets z ts) ch_is exact) set (list_at new.rows to) is

      kept_best : IsBestTo l text at candidates place (list_at new.rows best) n
      kept_best = subst (λ z. IsBestTo l text at candidates place z n) (sym (grown_at mid.rows new.rows goes.rows best h.there)) h.longest

      module _ (kind : Kind) (is : IsKindOf new.flat.now (list_at new.rows to) kind) where
        kind_is : IsKindOf l.flat (list_at new.rows to) kind
        kind_is = subst (λ (f : LexicalForm). IsKindOf f.flat (list_at new.rows to) kind) form_of_new is

        pub reading_matches : kind.matches ≡ true → IsReading l text at candidates old new to (place + 1) to (place + 1)
        reading_matches t =
            let one : suc place ≡ place + 1 = omega arith in
            record {
              goes = goes_on old mid new h.goes goes;
              inside = there;
              run = subst (HasRun l text at candidates new.parts (list_at new.rows to)) one run;
              there = there;
              longest = subst (λ z. IsBestTo l text at candidates z (list_at new.rows to) z) one (best_here l text at candidates flat known new.parts (list_at new.rows to) place run (kind_is.matches.0 t));
            }

        pub reading_goes : kind.matches ≡ false → IsReading l text at candidates old new to (place + 1) best n
        reading_goes f =
            let one : suc place ≡ place + 1 = omega arith in
            record {
              goes = goes_on old mid new h.goes goes;
              inside = there;
              run = subst (HasRun l text at candidates new.parts (list_at new.rows to)) one run;
              there = (let lt = h.there in let long = grown_long mid.rows new.rows goes.rows in omega arith);
              longest = subst (λ z. IsBestTo l text at candidates z (list_at new.rows best) n) one
                  (best_before l text at candidates flat known new.parts (list_at new.rows to) place run (λ m. let t = kind_is.matches.1 m in absurd (cc)) (list_at new.rows best) n kept_best);
            }

    best_row : ((th : Thread) (x : ℕ) → Waiting l.flat (list_at mid.rows state) th → next l.flat th ≡ Some x → EdgesFrom l text at x place (suc place) → ⊥) → IsBestRow (form_of mid) text at candidates (list_at mid.rows best) n
    best_row none =
        subst (λ f. IsBestRow f text at candidates (list_at mid.rows best) n) (sym form_of_mid)
        (best_done l text at candidates flat known mid.parts (list_at mid.rows state) place h.run none (list_at mid.rows best) n h.longest)

    pub stuck_best : (kind : Kind) → IsKindOf mid.flat.now (list_at mid.rows state) kind → kind.goes ≡ false → IsBestRow (form_of mid) text at candidates (list_at mid.rows best) n
    stuck_best kind is f =
        let k = subst (λ (f : LexicalForm). IsKindOf f.flat (list_at mid.rows state) kind) form_of_mid is in
        best_row (λ th x w e edge. let t = k.goes.1 (th, w) in absurd (cc))

    pub end_best : length text ≤ at + place → IsBestRow (form_of mid) text at candidates (list_at mid.rows best) n
    end_best end = best_row (λ th x w e edge. no_edge l text at candidates place x end edge)

-- ---- the answer

module _ (l : LexicalForm) (text : List ℕ) (at : ℕ) (candidates : List ℕ) (row : List Thread) (n : ℕ) (h : IsBestRow l text at candidates row n) where
  pub best_unmatched : n ≡ 0 → IsUnmatched l text at candidates
  best_unmatched none k m c some match = let le = h.longest k m c match in omega arith

  pub best_matched : 0 < n → (matched : List ℕ) → ((k : ℕ) → Contains matched k ↔ (Contains candidates k × IsDoneIn l.flat row k)) → (IsStrictlySortedBy nat_cmp candidates → IsStrictlySortedBy nat_cmp matched) → IsLongestMatch l text at candidates n matched
  best_matched some matched exact sorted = record {
    some = some;
    found = (let (k, c, d) = h.some some in let (i, lt, e) = (exact k).1 (c, d) in omega arith);
    exact = λ k. (
      λ c. (let (a, d) = (exact k).0 c in (a, (h.exact some k a).0 d)),
      λ (a, m). (exact k).1 (a, (h.exact some k a).1 m),
    );
    longest = h.longest;
    sorted = sorted;
  }
