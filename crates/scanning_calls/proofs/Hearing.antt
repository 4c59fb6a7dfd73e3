-- What a recognizer takes and tells, by the machine that reads.
use Rattle.std.proofs.Common.{◌≡◌, ◌∙◌, ℕ, ◌+◌, ◌-◌, ◌<◌, ◌≤◌, ◌++◌, ◌⊎◌, inl, inr, false, List, [], ◌∷◌, Option, Some, None, Result, Ok, Err, length, refl, sym, ap, subst, arith}
use Rattle.std.specs.Prelude.{All, Contains, is_some, ◌↔◌, slice_get, slice_index_or, AllPairs}
use Rattle.std.proofs.lemmas.List.Elements.{All-contains}
use Rattle.std.proofs.lemmas.Map.Keys.{sorted_from_strictly_increasing}
use Rattle.std.proofs.lemmas.Option.{slice_get-get_or}
use Rattle.grammar_model.specs.Grammar.{Grammar}
use Rattle.grammar_model.specs.declared.limits.TheConstants.{LAST_PLACE, LONGEST_EDGE}
use Rattle.grammar_core.specs.Written.{IsWritten}
use Rattle.grammar_model.specs.Checked.{IsChecked}
use Rattle.flat_model.specs.Flattened.{IsFlattened}
use Rattle.recognizer_model.specs.Flat.{FlatGrammar}
use Rattle.recognizer_model.specs.FlatForm.{IsFlatOf}
use Rattle.earley_sets.specs.Recognizer.{Recognizer, IsRecognizer, earleme_of, new_edge}
use Rattle.earley_sets.specs.Recognizer as recce
use Rattle.earley_sets.specs.Laws.{ExpectedAreAcceptable}
use Rattle.earley_sets.specs.declared.recce.AlternativeRefusal.{AlternativeRefusal}
use Rattle.earley_sets.specs.declared.recce.AlternativeRefusal.TheVariants as alternative
use Rattle.script_model.specs.Commands.{Building, Reading}
use Rattle.script_model.specs.Machine.{Machine, that_reads, IsExpected}
use Rattle.script_model.specs.Replies.{Reply, says, PrecomputeReplies, Refused, TooManyRules, Ready}
use Rattle.marpa_script.specs.Machines.{building, reading}
use Rattle.marpa_script.proofs.Hearing.{all_known}
use Rattle.scanning_calls.specs.Machines.{machine_of, ReadsOver}
use Rattle.scanning_calls.specs.Calls.{AreExpected, IsTokenRefusal, PrecomputeAnswers, TokenAnswers}
use Rattle.scanning_calls.specs.declared.refusal.ScanRefusal.TheVariants.{NotNow, TooMany, BadGrammar, Unexpected, Duplicate, BadLength, NoMemory}

-- ---- IT READS ON

pub reads_on : (g : Grammar) (r s : Recognizer) → ReadsOver g r → s.flat ≡ r.flat → s.start ≡ r.start → ReadsOver g s
reads_on g r s reads flat start = record {
  checked = reads.checked;
  flat = subst (λ f. IsFlatOf f g) (sym flat) reads.flat;
  start = start ∙ reads.start;
}

not_building : Reading ≡ Building → ⊥
not_building e = cc e

-- ---- WHAT IS EXPECTED

module _ (law : ExpectedAreAcceptable) (g : Grammar) (r : Recognizer) (reads : ReadsOver g r) (is : IsRecognizer r) where
  heard : (t : ℕ) → recce.IsExpected r t ↔ IsExpected (reading g r) t
  heard t =
      law g r (slice_index_or g.starts 0 0) t reads.checked reads.flat is (ap (slice_get g.starts) reads.start ∙ slice_get-get_or g.starts 0 0 reads.checked.some_start)

  pub expected_told : IsWritten g → (ts : List ℕ) → AllPairs (λ s t. s < t) ts → ((t : ℕ) → Contains ts t ↔ recce.IsExpected r t) → AreExpected (reading g r) ts
  expected_told w ts order exact = record {
    order = sorted_from_strictly_increasing ts (λ k lt. order k (k + 1) 0 (omega arith) lt);
    exact = λ t. (
      (λ held. (All-contains (λ s. s < length g.names) ts t (all_known g r ts w reads.flat exact) held, (heard t).0 ((exact t).0 held))),
      (λ known. (exact t).1 ((heard t).1 known.1)),
    );
  }

-- ---- TAKING A TOKEN

clash : {R E : Type 0} (o : Result R E) (v : R) (e : E) → o ≡ Ok v → o ≡ Err e → ⊥
clash (Ok w) v e p q = cc q
clash (Err w) v e p q = cc p

-- the machine builds
pub not_now : {T : Type 0} (m : Machine) (x n : ℕ) → m.phase ≡ Building → TokenAnswers {T = T} m x n (Err NotNow) m
not_now m x n builds = record { refusal = Some NotNow; is = inl (builds, refl); answers = (refl, refl) }

pub at_last : {T : Type 0} (g : Grammar) (r : Recognizer) (x n : ℕ) → LAST_PLACE ≤ earleme_of r → TokenAnswers {T = T} (reading g r) x n (Err TooMany) (reading g r)
at_last g r x n last = record { refusal = Some TooMany; is = inr (not_building, inl (last, refl)); answers = (refl, refl) }

module _ (law : ExpectedAreAcceptable) (g : Grammar) (r s : Recognizer) (reads : ReadsOver g r) (is : IsRecognizer r) (x n : ℕ) (lt : earleme_of r < LAST_PLACE) where
  below : LAST_PLACE ≤ earleme_of r → ⊥
  below le = omega (arith, lt, le)

  never_heard : (recce.IsExpected r x → ⊥) → IsExpected (reading g r) x → ⊥
  never_heard never h = never ((heard law g r reads is x).1 h)

  is_heard : recce.IsExpected r x → (IsExpected (reading g r) x → ⊥) → ⊥
  is_heard h never = never ((heard law g r reads is x).0 h)

  pub unexpected : {T : Type 0} → s ≡ r → (recce.IsExpected r x → ⊥) → TokenAnswers {T = T} (reading g r) x n (Err Unexpected) (reading g s)
  unexpected same never = record { refusal = Some Unexpected; is = inr (not_building, inr (below, inl (never_heard never, refl))); answers = (refl, ap (reading g) same) }

  pub duplicate : {T : Type 0} → s ≡ r → recce.IsExpected r x × Contains r.edges (new_edge r x n) → TokenAnswers {T = T} (reading g r) x n (Err Duplicate) (reading g s)
  duplicate same (h, held) = record { refusal = Some Duplicate; is = inr (not_building, inr (below, inr (is_heard h, inl (held, refl)))); answers = (refl, ap (reading g) same) }

  pub bad_length : {T : Type 0} → s ≡ r → recce.IsExpected r x × (Contains r.edges (new_edge r x n) → ⊥) × ((n ≡ 0) ⊎ (LONGEST_EDGE < n)) → TokenAnswers {T = T} (reading g r) x n (Err BadLength) (reading g s)
  bad_length same (h, new, bad) = record { refusal = Some BadLength; is = inr (not_building, inr (below, inr (is_heard h, inr (new, inl (bad, refl))))); answers = (refl, ap (reading g) same) }

  module _ {R : Type 0} (o : Result R AlternativeRefusal) (unexpected_if : (o ≡ Err alternative.Unexpected) ↔ (recce.IsExpected r x → ⊥))
      (duplicate_if : (o ≡ Err alternative.Duplicate) ↔ (recce.IsExpected r x × Contains r.edges (new_edge r x n)))
      (bad_if : (o ≡ Err alternative.BadLength) ↔ (recce.IsExpected r x × (Contains r.edges (new_edge r x n) → ⊥) × ((n ≡ 0) ⊎ (LONGEST_EDGE < n)))) where
    free : (o ≡ Err alternative.Unexpected → ⊥) → (o ≡ Err alternative.Duplicate → ⊥) → (o ≡ Err alternative.BadLength → ⊥) → IsTokenRefusal (reading g r) x n None
    free not_unexpected not_duplicate not_bad = inr (not_building, inr (below, inr ((λ never. some (λ h. is_heard h never)), inr (new, inr (fits, refl)))))
      where
        some : (recce.IsExpected r x → ⊥) → ⊥
        some never = not_unexpected (unexpected_if.1 never)

        new : Contains r.edges (new_edge r x n) → ⊥
        new held = some (λ h. not_duplicate (duplicate_if.1 (h, held)))

        fits : ((n ≡ 0) ⊎ (LONGEST_EDGE < n)) → ⊥
        fits bad = some (λ h. not_bad (bad_if.1 (h, new, bad)))

    pub no_memory : {T : Type 0} → o ≡ Err alternative.NoMemory → s ≡ r → TokenAnswers {T = T} (reading g r) x n (Err NoMemory) (reading g s)
    no_memory e same = record {
      refusal = None;
      is = free (λ u. let c = sym e ∙ u in cc c) (λ u. let c = sym e ∙ u in cc c) (λ u. let c = sym e ∙ u in cc c);
      answers = (refl, ap (reading g) same);
    }

    pub taken : {T : Type 0} (v : R) (t : T) → o ≡ Ok v → s.edges ≡ r.edges ++ new_edge r x n ∷ [] → s.sets ≡ r.sets → TokenAnswers (reading g r) x n (Ok t) (reading g s)
    taken v t e more same = record {
      refusal = None;
      is = free (clash o v alternative.Unexpected e) (clash o v alternative.Duplicate e) (clash o v alternative.BadLength e);
      answers = λ i. record { grammar = g; phase = Reading; edges = more i; place = length (same i) - 1 };
    }

-- ---- READING BEGINS

checked_by : (g : Grammar) (text : List ℕ) → PrecomputeReplies (building g) (says (that_reads (building g)) text) → IsChecked g
checked_by g text (Refused refusal refuses e) = let phases : Reading ≡ Building = ap (λ (reply : Reply). reply.after.phase) e in absurd (not_building phases)
checked_by g text (TooManyRules checked many e) = checked
checked_by g text (Ready checked few e) = checked

pub reads_first : (g : Grammar) (flat : FlatGrammar) (r : Recognizer) (text : List ℕ) → IsFlattened g flat → PrecomputeReplies (building g) (says (that_reads (building g)) text) → r.flat ≡ flat → r.start ≡ 0 → ReadsOver g r
reads_first g flat r text is replies of start = record {
  checked = checked_by g text replies;
  flat = subst (λ (f : FlatGrammar). IsFlatOf f g) (sym of) is.made;
  start = start;
}

pub refused_now : (T : Type 0) (m : Machine) (g : Grammar) (session : Option Recognizer) (text : List ℕ) → machine_of g session ≡ m → is_some session ≡ false → PrecomputeReplies (building g) (says (building g) text) →
    PrecomputeAnswers {T = T} m.phase m m (Err BadGrammar) text
refused_now T m g None text same none replies = subst (λ (n : Machine). PrecomputeAnswers {T = T} n.phase n n (Err BadGrammar) text) same (refl, inr (refl, replies))
refused_now T m g (Some r) text same none replies = absurd (cc none)
