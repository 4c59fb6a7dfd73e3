-- What a recognizer hears, by the machine that reads.
use Rattle.std.proofs.Common.{◌≡◌, ◌∙◌, ℕ, zero, suc, ◌+◌, ◌-◌, ◌<◌, ◌≤◌, ◌++◌, ◌⊎◌, inl, inr, Bool, true, false, List, [], ◌∷◌, Option, Some, None, Result, Ok, Err, length, map, refl, sym, ap, subst, arith, true≢false, eq-eqb}
use Rattle.std.specs.Prelude.{All, Contains, ◌↔◌, codes, decimal, if◌then◌else◌, nat_eq, slice_get, slice_index_or, AllPairs}
use Rattle.std.specs.List.Sorted.{IsStrictlySortedBy}
use Rattle.std.specs.Ordering.{nat_cmp}
use Rattle.std.proofs.lemmas.List.{length_push}
use Rattle.std.proofs.lemmas.List.Elements.{All-weaker, All-contains, All-contains_itself}
use Rattle.std.proofs.lemmas.Map.Keys.{sorted_from_strictly_increasing}
use Rattle.std.proofs.lemmas.Option.{slice_get-get_or}
use Rattle.finite_sets.proofs.Clauses.{less_differs}
use Rattle.finite_sets.proofs.Lists.{get_item}
use Rattle.grammar_model.specs.declared.Edge.{Edge}
use Rattle.grammar_model.specs.Grammar.{Grammar, Slot, slot_of}
use Rattle.grammar_model.specs.Analysis.{IsAccessibleIn}
use Rattle.grammar_model.specs.Growth.{has_name, number_of}
use Rattle.grammar_model.specs.Refusals.{listed}
use Rattle.grammar_model.specs.Values.{name_of}
use Rattle.grammar_model.specs.declared.limits.TheConstants.{LONGEST_EDGE}
use Rattle.grammar_core.specs.Written.{IsWritten}
use Rattle.grammar_core.proofs.Known.{child_known}
use Rattle.recognizer_model.specs.declared.Item.{Item}
use Rattle.recognizer_model.specs.declared.flat.FlatSymbol.TheVariants.{Terminal}
use Rattle.recognizer_model.specs.FlatForm.{IsFlatOf, IsSymbolOf}
use Rattle.earley_sets.specs.Recognizer.{Recognizer, IsRecognizer, earleme_of, new_edge}
use Rattle.earley_sets.specs.Recognizer as recce
use Rattle.earley_sets.specs.Laws.{ExpectedAreAcceptable}
use Rattle.earley_sets.specs.declared.recce.AlternativeRefusal.{AlternativeRefusal}
use Rattle.earley_sets.specs.declared.recce.AlternativeRefusal.TheVariants.{Unexpected, Duplicate, BadLength}
use Rattle.script_model.specs.Commands.{Reading}
use Rattle.script_model.specs.Machine.{Machine, edge_from, with_edge, at_next_place, IsExpected}
use Rattle.script_model.specs.Replies.{Reply, says, complete_reply, AlternativeReplies, ExpectedReplies}
use Rattle.marpa_script.specs.Machines.{reading, ReadsBy}

-- ---- WHAT IS EXPECTED

module _ (law : ExpectedAreAcceptable) (g : Grammar) (r : Recognizer) (reads : ReadsBy g r) (is : IsRecognizer r) where
  pub heard : (t : ℕ) → recce.IsExpected r t ↔ IsExpected (reading g r) t
  heard t =
      law g r (slice_index_or g.starts 0 0) t reads.checked reads.flat is (ap (slice_get g.starts) reads.start ∙ slice_get-get_or g.starts 0 0 reads.checked.some_start)

accessible_known : (g : Grammar) → IsWritten g → (k : ℕ) (slot : Slot) → IsAccessibleIn k g slot → slot.symbol < length g.names
accessible_known g w zero slot (s, held, is) = subst (λ (z : Slot). z.symbol < length g.names) (sym is) (All-contains (λ s. s < length g.names) g.starts s w.starts_known held)
accessible_known g w (suc k) slot (above, reached, productive, (i, lt, fits, (live, (j, jl, is)))) = subst (λ (z : Slot). z.symbol < length g.names) is (child_known g i j w lt jl)

-- what is expected is a symbol of the grammar
expected_known : (g : Grammar) (r : Recognizer) (t : ℕ) → IsWritten g → IsFlatOf r.flat g → recce.IsExpected r t → t < length g.names
expected_known g r t w flat (x, at, acceptable) =
    let is : IsSymbolOf g (Terminal t) = (flat.symbols.exact (Terminal t)).0 (get_item r.flat.symbols x (Terminal t) at) in
    accessible_known g w is.1.0.0 (slot_of t) is.1.0.1

pub all_known : (g : Grammar) (r : Recognizer) (ts : List ℕ) → IsWritten g → IsFlatOf r.flat g → ((t : ℕ) → Contains ts t ↔ recce.IsExpected r t) → All (λ s. s < length g.names) ts
all_known g r ts w flat exact = All-weaker (Contains ts) (λ s. s < length g.names) (λ t held. expected_known g r t w flat ((exact t).0 held)) ts (All-contains_itself ts)

pub replies_expected : (law : ExpectedAreAcceptable) (g : Grammar) (r : Recognizer) → ReadsBy g r → IsRecognizer r → IsWritten g → (ts text : List ℕ) → AllPairs (λ s t. s < t) ts →
    ((t : ℕ) → Contains ts t ↔ recce.IsExpected r t) → text ≡ listed (map (name_of g) ts) → ExpectedReplies (reading g r) (says (reading g r) text)
replies_expected law g r reads is w ts text order exact said = record {
  symbols = ts;
  order = sorted_from_strictly_increasing ts (λ k lt. order k (k + 1) 0 (omega arith) lt);
  exact = λ t. (
    (λ held. (expected_known g r t w reads.flat ((exact t).0 held), (heard law g r reads is t).0 ((exact t).0 held))),
    (λ known. (exact t).1 ((heard law g r reads is t).1 known.1)),
  );
  is = ap (says (reading g r)) said;
}

-- ---- TAKING A TOKEN

clash : {T E : Type 0} (o : Result T E) (v : T) (e : E) → o ≡ Ok v → o ≡ Err e → ⊥
clash (Ok w) v e p q = cc q
clash (Err w) v e p q = cc p

pub replies_bad_name : (g : Grammar) (r : Recognizer) (name text : List ℕ) (n : ℕ) → false ≡ has_name g name → text ≡ codes "bad name" → AlternativeReplies (reading g r) name n (says (reading g r) text)
replies_bad_name g r name text n unknown said = inl (sym unknown, ap (says (reading g r)) said)

module _ (law : ExpectedAreAcceptable) (g : Grammar) (r s : Recognizer) (name text : List ℕ) (n x : ℕ) (reads : ReadsBy g r) (is : IsRecognizer r) (known : true ≡ has_name g name) (number : x ≡ number_of g name) where
  not_unknown : has_name g name ≡ false → ⊥
  not_unknown e = true≢false (known ∙ e)

  to_machine : recce.IsExpected r x → IsExpected (reading g r) (number_of g name)
  to_machine h = subst (IsExpected (reading g r)) number ((heard law g r reads is x).0 h)

  from_machine : IsExpected (reading g r) (number_of g name) → recce.IsExpected r x
  from_machine h = (heard law g r reads is x).1 (subst (IsExpected (reading g r)) (sym number) h)

  same_edge : new_edge r x n ≡ edge_from (reading g r) (number_of g name) n
  same_edge = ap (λ (k : ℕ). new_edge r k n) number

  stays : (said : List ℕ) → s ≡ r → text ≡ said → says (reading g s) text ≡ says (reading g r) said
  stays said same e = λ i. says (reading g (same i)) (e i)

  pub replies_unexpected : s ≡ r → (recce.IsExpected r x → ⊥) → text ≡ codes "unexpected" → AlternativeReplies (reading g r) name n (says (reading g s) text)
  replies_unexpected same never said = inr (not_unknown, inl ((λ h. never (from_machine h)), stays (codes "unexpected") same said))

  pub replies_duplicate : s ≡ r → recce.IsExpected r x × Contains r.edges (new_edge r x n) → text ≡ codes "duplicate" → AlternativeReplies (reading g r) name n (says (reading g s) text)
  replies_duplicate same (expected, held) said =
      inr (not_unknown, inr ((λ never. never (to_machine expected)), inl (subst (Contains r.edges) same_edge held, stays (codes "duplicate") same said)))

  pub replies_bad_length : s ≡ r → recce.IsExpected r x × (Contains r.edges (new_edge r x n) → ⊥) × ((n ≡ 0) ⊎ (LONGEST_EDGE < n)) → text ≡ codes "bad length" →
      AlternativeReplies (reading g r) name n (says (reading g s) text)
  replies_bad_length same (expected, new, bad) said =
      inr (not_unknown, inr ((λ never. never (to_machine expected)), inr ((λ held. new (subst (Contains r.edges) (sym same_edge) held)), inl (bad, stays (codes "bad length") same said))))

  pub replies_taken : {T : Type 0} (o : Result T AlternativeRefusal) (v : T) → o ≡ Ok v → (o ≡ Err Unexpected) ↔ (recce.IsExpected r x → ⊥) →
      (o ≡ Err Duplicate) ↔ (recce.IsExpected r x × Contains r.edges (new_edge r x n)) →
      (o ≡ Err BadLength) ↔ (recce.IsExpected r x × (Contains r.edges (new_edge r x n) → ⊥) × ((n ≡ 0) ⊎ (LONGEST_EDGE < n))) →
      s.edges ≡ r.edges ++ new_edge r x n ∷ [] → s.sets ≡ r.sets → text ≡ codes "taken" → AlternativeReplies (reading g r) name n (says (reading g s) text)
  replies_taken o v ok unexpected duplicate bad_length more same said =
      inr (not_unknown, inr ((λ never. some (λ h. never (to_machine h))), inr ((λ held. new (subst (Contains r.edges) (sym same_edge) held)), inr (fits, says_taken))))
    where
      some : (recce.IsExpected r x → ⊥) → ⊥
      some never = clash o v Unexpected ok (unexpected.1 never)

      new : Contains r.edges (new_edge r x n) → ⊥
      new held = some (λ h. clash o v Duplicate ok (duplicate.1 (h, held)))

      fits : ((n ≡ 0) ⊎ (LONGEST_EDGE < n)) → ⊥
      fits bad = some (λ h. clash o v BadLength ok (bad_length.1 (h, new, bad)))

      edges : s.edges ≡ r.edges ++ edge_from (reading g r) (number_of g name) n ∷ []
      edges = more ∙ ap (λ (e : Edge). r.edges ++ e ∷ []) same_edge

      after : reading g s ≡ with_edge (reading g r) (edge_from (reading g r) (number_of g name) n)
      after = λ i. record { grammar = g; phase = Reading; edges = edges i; place = length (same i) - 1 }

      says_taken : says (reading g s) text ≡ says (with_edge (reading g r) (edge_from (reading g r) (number_of g name) n)) (codes "taken")
      says_taken = λ i. says (after i) (said i)

-- ---- THE NEXT PLACE

abbrev complete_by : (m : Machine) (b : Bool) → Reply
complete_by m b = if b then says m (codes "last place") else says (at_next_place m) (codes "place " ++ decimal (m.place + 1))

pub stays_last : (g : Grammar) (r : Recognizer) (text : List ℕ) → earleme_of r ≡ 1000000 → text ≡ codes "last place" → says (reading g r) text ≡ complete_reply (reading g r)
stays_last g r text last said =
    let test : nat_eq (earleme_of r) 1000000 ≡ true = eq-eqb (earleme_of r) 1000000 last in
    ap (says (reading g r)) said ∙ sym (ap (complete_by (reading g r)) test)

module _ (r s : Recognizer) (set : List Item) (is : IsRecognizer r) (more : s.sets ≡ r.sets ++ set ∷ []) where
  pub next_place : earleme_of s ≡ earleme_of r + 1
  next_place = let some = is.some in let long = ap length more ∙ length_push r.sets set in omega (arith, long, some)

  pub goes_on : (g : Grammar) (text : List ℕ) → s.edges ≡ r.edges → earleme_of r < 1000000 → text ≡ codes "place " ++ decimal (earleme_of s) → says (reading g s) text ≡ complete_reply (reading g r)
  goes_on g text same lt said =
      let test : nat_eq (earleme_of r) 1000000 ≡ false = less_differs (earleme_of r) 1000000 lt in
      let place : earleme_of s ≡ earleme_of r + 1 = next_place in
      let after : reading g s ≡ at_next_place (reading g r) = λ i. record { grammar = g; phase = Reading; edges = same i; place = place i } in
      let words : text ≡ codes "place " ++ decimal (earleme_of r + 1) = said ∙ ap (λ (k : ℕ). codes "place " ++ decimal k) place in
      let step : says (reading g s) text ≡ says (at_next_place (reading g r)) (codes "place " ++ decimal (earleme_of r + 1)) = λ i. says (after i) (words i) in
      step ∙ sym (ap (complete_by (reading g r)) test)

-- ---- IT READS ON

pub reads_on : (g : Grammar) (r s : Recognizer) → ReadsBy g r → s.flat ≡ r.flat → s.start ≡ r.start → earleme_of s ≤ 1000000 → ReadsBy g s
reads_on g r s reads flat start within = record {
  checked = reads.checked;
  flat = subst (λ f. IsFlatOf f g) (sym flat) reads.flat;
  start = start ∙ reads.start;
  within = within;
}

pub reads_same : (g : Grammar) (r s : Recognizer) → ReadsBy g r → s.flat ≡ r.flat → s.start ≡ r.start → s.sets ≡ r.sets → ReadsBy g s
reads_same g r s reads flat start sets =
    let here = reads.within in
    let same = ap length sets in
    reads_on g r s reads flat start (omega (arith, here, same))
