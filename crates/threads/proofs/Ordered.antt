-- Threads in order: those that wait for a symbol stand together.
use Rattle.std.proofs.Common.{◌≡◌, ◌⊎◌, inl, inr, ◌↔◌, ℕ, ◌+◌, ◌-◌, ◌<◌, ◌≤◌, List, [], Option, Some, None, length, take, drop, Contains, refl, sym, ◌∙◌, ap, subst, arith}
use Rattle.std.specs.Prelude.{slice_index_or}
use Rattle.std.proofs.lemmas.Bool.{cases_lt}
use Rattle.finite_sets.proofs.Lists.{Contains-none, get_index}
use Rattle.grammar_core.proofs.Placed.{part_from, part_to, found_at, at_found}
use Rattle.recognizer_model.specs.declared.thread.Thread.{Thread}
use Rattle.recognizer_model.specs.Flat.{FlatGrammar}
use Rattle.recognizer_model.specs.Threads.{next, Waiting}
use Rattle.threads.specs.Steps.{IsLoneIn}
use Rattle.threads.specs.Goals.{HasAddedLefts}
use Rattle.threads.proofs.Listing.{contains_next}
use Rattle.threads.specs.Order.{or_end, awaited, IsOrderOf}

or_end_is : (o : Option ℕ) (x : ℕ) → x < 4294967296 → or_end o ≡ x → o ≡ Some x
or_end_is None x lt e = absurd (omega arith)
or_end_is (Some y) x lt e = ap Some e

module _ (g : FlatGrammar) (row : List Thread) (x : ℕ) (few : x < 4294967296) (start end : ℕ) (bs : start ≤ length row) (be : end ≤ length row)
    (b1 : (k : ℕ) (d : Thread) → k < start → awaited g (slice_index_or row k d) < x) (a1 : (k : ℕ) (d : Thread) → start ≤ k → k < length row → x ≤ awaited g (slice_index_or row k d))
    (b2 : (k : ℕ) (d : Thread) → k < end → awaited g (slice_index_or row k d) < x + 1) (a2 : (k : ℕ) (d : Thread) → end ≤ k → k < length row → x + 1 ≤ awaited g (slice_index_or row k d)) where
  none : Thread
  none = record { rule = 0; dot = 0; label = None }

  pub start_first : start ≤ end
  start_first = go (cases_lt end start)
    where
      go : (end < start) ⊎ (start ≤ end) → start ≤ end
      go (inr l) = l
      go (inl l) = let p = b1 end none l in let q = a2 end none (omega arith) (omega arith) in absurd (omega arith)

  pub part_has : (th : Thread) → Contains (take (end - start) (drop start row)) th ↔ (Contains row th × (next g th ≡ Some x))
  part_has th = (there', back)
    where
      there' : Contains (take (end - start) (drop start row)) th → Contains row th × (next g th ≡ Some x)
      there' h =
          let (k, from, to, is) = part_from row start end start_first be th h in
          let (lt, same) = get_index row k th th is in
          let p = a1 k th from lt in
          let q = b2 k th to in
          let s = ap (λ (z : Thread). awaited g z) same in
          (at_found row k th is, or_end_is (next g th) x few (omega arith))

      back : Contains row th × (next g th ≡ Some x) → Contains (take (end - start) (drop start row)) th
      back (c, e) =
          let (k, is) = found_at row th c in
          let (lt, same) = get_index row k th th is in
          let s = ap (λ (z : Thread). awaited g z) same in
          let it : awaited g th ≡ x = ap or_end e in
          part_to row start end start_first be k th (first k lt (s ∙ it)) (last k lt (s ∙ it)) is
        where
          first : (k : ℕ) → k < length row → awaited g (slice_index_or row k th) ≡ x → start ≤ k
          first k lt s = elim (cases_lt k start) [ inl l ↦ let p = b1 k th l in absurd (omega arith) | inr l ↦ l ]

          last : (k : ℕ) → k < length row → awaited g (slice_index_or row k th) ≡ x → k < end
          last k lt s = elim (cases_lt k end) [ inl l ↦ l | inr l ↦ let p = a2 k th l lt in absurd (omega arith) ]

-- those of a row in order that wait for a symbol
module _ (g : FlatGrammar) (row ordered part : List Thread) (x : ℕ) (order : IsOrderOf g row ordered) (exact : (th : Thread) → Contains part th ↔ (Contains ordered th × (next g th ≡ Some x))) where
  pub lone_of_part : (parts : List (List Thread)) (th : Thread) → IsLoneIn g parts (Waiting g part) x th → IsLoneIn g parts (Waiting g row) x th
  lone_of_part parts th lone = record {
    inside = (let (there, waits) = lone.inside in ((order.same th).0 ((exact th).0 there).0, waits));
    waits = lone.waits;
    last = lone.last;
    only = λ other (there, waits) e. lone.only other ((exact other).1 ((order.same other).1 there, e), waits) e;
    inner = lone.inner;
  }

  pub lefts_of_part : (old new : List ℕ) → HasAddedLefts g part x old new → HasAddedLefts g row x old new
  lefts_of_part old new added = record { more = added.more; lefts = λ low h e none. added.lefts low ((exact low).1 ((order.same low).1 h, e)) e none }

-- those of a row in order that wait for one of the first goals
module _ (g : FlatGrammar) (ordered : List Thread) (goals : List ℕ) where
  abbrev pub AwaitsFirst : ℕ → Thread → Type 0
  AwaitsFirst i th = Contains ordered th × ((x : ℕ) × (next g th ≡ Some x) × Contains (take i goals) x)

  pub none_waiting : (part : List Thread) → part ≡ [] → (th : Thread) → Contains part th ↔ AwaitsFirst 0 th
  none_waiting part e th = ((λ h. absurd (Contains-none th (subst (λ (l : List Thread). Contains l th) e h))), (λ (_, (x, _, n)). absurd (Contains-none x n)))

  pub more_waiting : (i : ℕ) → i < length goals → (old new : List Thread) → ((th : Thread) → Contains old th ↔ AwaitsFirst i th) →
      ((th : Thread) → Contains new th ↔ (Contains old th ⊎ (Contains ordered th × (next g th ≡ Some (slice_index_or goals i 0))))) → (th : Thread) → Contains new th ↔ AwaitsFirst (i + 1) th
  more_waiting i lt old new before more th = (
    λ h. elim ((more th).0 h) [
      | inl o ↦ let (there, (x, e, held)) = (before th).0 o in (there, (x, e, (contains_next goals i 0 x lt).1 (inl held)))
      | inr (there, e) ↦ (there, (slice_index_or goals i 0, e, (contains_next goals i 0 (slice_index_or goals i 0) lt).1 (inr refl)))
    ],
    λ (there, (x, e, h)). (more th).1 (elim ((contains_next goals i 0 x lt).0 h) [
      | inl o ↦ inl ((before th).1 (there, (x, e, o)))
      | inr s ↦ inr (there, e ∙ ap Some (sym s))
    ]),
  )
