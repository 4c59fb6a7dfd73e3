-- Each text has a reading: as long as something can be taken, it is taken, and where nothing can be, what may be supplied is.
use Rattle.std.proofs.Common.{arith, ◌≡◌, ◌⊎◌, ◌↔◌, inl, inr, ℕ, zero, suc, ◌+◌, ◌<◌, ◌≤◌, List, [], ◌∷◌, ◌++◌, length, length-append, Contains, slice_index, refl, sym, ap, ◌∙◌, subst}
use Rattle.std.proofs.lemmas.Bool.{cases_lt}
use Rattle.std.specs.List.Sorted.{IsStrictlySortedBy}
use Rattle.std.specs.Ordering.{nat_cmp}
use Rattle.finite_sets.specs.Decided.{IsDecided}
use Rattle.finite_sets.proofs.Deciding.{both, moved, equal}
use Rattle.finite_sets.proofs.Members.{Among, among_from, contains_from, member, once_most}
use Rattle.finite_sets.proofs.Lists.{Contains-none}
use Rattle.grammar_model.specs.Checked.{IsChecked}
use Rattle.grammar_model.specs.Grammar.{slot_of}
use Rattle.grammar_model.specs.Derives.{Held}
use Rattle.grammar_laws.proofs.ItemSets.{held_decided}
use Rattle.grammar_laws.proofs.Acceptance.{acceptable_decided}
use Rattle.grammar_laws.proofs.Spans.{tree_decided}
use Rattle.language_model.specs.Building.{Built}
use Rattle.reading_model.specs.Reading.{Piece, Token, Skipped, earleme_after, edges_of, IsNext, IsLongest, IsKept, IsKeptNone, IsSkipped, Ending, End, Stopped}
use Rattle.reading_model.proofs.Within.{match_within}
use Rattle.reading_laws.specs.Laws.{LexemesAreNamed, ReadingExists}
use Rattle.reading_laws.proofs.Candidates.{pieces_forward, longest_or, one_longest, kept_list, skipped_decided, found_list, expected_list}
use Rattle.reading_model.specs.First.{IsFirstWith, HasNone}
use Rattle.reading_model.specs.Reading.{supplied, supplied_behind, HasDerivation, TakesNothing, IsStuck, Within, Ended, MaySupply, ReadsWith, Begin, Take, Skip, Supply, IsReadingWith, HasEnded, HasStopped}
use Rattle.reading_model.proofs.Behind.{behind_supplied}
use Rattle.reading_model.proofs.Few.{some_of}
use Rattle.reading_model.proofs.One.{contains_first}

-- ---- the first with a decided property, or none has it

module _ {A : Type 0} (P : A → Type 0) (decided : (x : A) → IsDecided (P x)) where
  among_cases : (y x : A) (xs : List A) → Contains (x ∷ xs) y → (x ≡ y) ⊎ Contains xs y
  among_cases y x xs c = elim (among_from (x ∷ xs) y c) [ inl e ↦ inl e | inr m ↦ inr (contains_from xs y m) ]

  pub first_or : (xs : List A) → ((x : A) × IsFirstWith P xs x) ⊎ HasNone P xs
  first_or [] = inr (λ x c p. Contains-none x c)
  first_or (x ∷ xs) = at_head (decided x) (first_or xs)
    where
      at_head : IsDecided (P x) → ((y : A) × IsFirstWith P xs y) ⊎ HasNone P xs → ((y : A) × IsFirstWith P (x ∷ xs) y) ⊎ HasNone P (x ∷ xs)
      at_head (inl p) rest = inl (x, record { before = []; after = xs; split = refl; has = p; none_before = λ y c q. Contains-none y c })
      at_head (inr not) (inl (y, f)) = inl (
        y,
        record {
          before = x ∷ f.before;
          after = f.after;
          split = ap (λ zs. x ∷ zs) f.split;
          has = f.has;
          none_before = λ z c q. elim (among_cases z x f.before c) [ inl e ↦ not (subst P (sym e) q) | inr m ↦ f.none_before z m q ];
        },
      )
      at_head (inr not) (inr none) = inr (λ z c q. elim (among_cases z x xs c) [ inl e ↦ not (subst P (sym e) q) | inr m ↦ none z m q ])

module _ (b : Built) (checked : IsChecked b.g1) (names : LexemesAreNamed b) (given text : List ℕ) where
  abbrev Result : Type 0
  Result = (pieces : List Piece) × (ending : Ending) × IsReadingWith b given text pieces ending

  -- ---- what is decided after pieces

  module _ (pieces : List Piece) where
    next_decided : (symbol : ℕ) → IsDecided (IsNext b pieces symbol)
    next_decided symbol =
        acceptable_decided b.g1 (Held (edges_of pieces)) (pieces_forward pieces) symbol (earleme_after pieces) checked.items_span (held_decided (edges_of pieces)) (slice_index b.g1.starts 0)

    was_decided : (symbol : ℕ) → IsDecided (Contains (supplied_behind pieces) symbol)
    was_decided symbol = moved (contains_from (supplied_behind pieces) symbol) (among_from (supplied_behind pieces) symbol) (member equal symbol (supplied_behind pieces))

    refuted : {P : Type 0} → IsDecided P → IsDecided (P → ⊥)
    refuted (inl p) = inr (λ f. f p)
    refuted (inr f) = inl f

    may_decided : (symbol : ℕ) → IsDecided (MaySupply b pieces symbol)
    may_decided symbol = moved (λ h. record { next = h.0; once = h.1 }) (λ m. (m.next, m.once)) (both (next_decided symbol) (refuted (was_decided symbol)))

    pub supply_or : ((symbol : ℕ) × IsFirstWith (MaySupply b pieces) given symbol) ⊎ HasNone (MaySupply b pieces) given
    supply_or = first_or (MaySupply b pieces) may_decided given

    pub has_tree : IsDecided (HasDerivation b pieces)
    has_tree = tree_decided b.g1 (Held (edges_of pieces)) (held_decided (edges_of pieces)) (pieces_forward pieces) (slot_of (slice_index b.g1.starts 0)) 0 (earleme_after pieces)

  -- ---- what is taken at a place, or nothing can be

  abbrev Taken : ℕ → List Piece → Type 0
  Taken at pieces = (n : ℕ) × (0 < n) × (at + n ≤ length text) × ((piece : Piece) × ReadsWith b given text (at + n) (pieces ++ piece ∷ []))

  at_longest : (at : ℕ) (pieces : List Piece) → ReadsWith b given text at pieces → at < length text → (n : ℕ) → IsLongest b text pieces at n → Taken at pieces ⊎ TakesNothing b text pieces at
  at_longest at pieces r lt n is = by_kept (kept_list b checked text pieces at n)
    where
      small : at + n ≤ length text
      small = match_within b text is.start at n is.some is.matches

      none_among : (symbol : ℕ) → Contains [] symbol → ⊥
      none_among symbol c = Contains-none symbol c

      by_skipped : IsKeptNone b text pieces at n → IsDecided (IsSkipped b text pieces at n) → Taken at pieces ⊎ TakesNothing b text pieces at
      by_skipped none (inl skipped) = inl (n, is.some, small, (Skipped n, Skip r lt is none skipped))
      by_skipped none (inr other) = inr (λ m l. subst (λ k. IsKeptNone b text pieces at k × (IsSkipped b text pieces at k → ⊥)) (one_longest b checked text pieces at n m is l) (none, other))

      by_kept : (xs : List ℕ) × IsStrictlySortedBy nat_cmp xs × ((symbol : ℕ) → Contains xs symbol ↔ IsKept b text pieces at n symbol) → Taken at pieces ⊎ TakesNothing b text pieces at
      by_kept ([], s, exact) = by_skipped (λ symbol k. none_among symbol ((exact symbol).1 k)) (skipped_decided b checked text pieces at n)
      by_kept (first ∷ others, s, exact) = inl (n, is.some, small, (Token n (first ∷ others), Take first others r lt is s exact))

  take_or : (at : ℕ) (pieces : List Piece) → ReadsWith b given text at pieces → at < length text → Taken at pieces ⊎ TakesNothing b text pieces at
  take_or at pieces r lt = elim (longest_or b checked text pieces at) [ inl (n, is) ↦ at_longest at pieces r lt n is | inr none ↦ inr (λ n l. absurd (none n l)) ]

  -- ---- endings

  stopped : (at : ℕ) (pieces : List Piece) → ReadsWith b given text at pieces → at < length text → TakesNothing b text pieces at → HasNone (MaySupply b pieces) given → Result
  stopped at pieces r lt nothing none =
      let (found, f) = found_list b checked text pieces at names in
      let (expected, e) = expected_list b checked text pieces at names in
      (pieces, Stopped at found expected, HasStopped r lt nothing none f e)

  ended : (at : ℕ) (pieces : List Piece) → ReadsWith b given text at pieces → at ≡ length text → HasDerivation b pieces ⊎ HasNone (MaySupply b pieces) given → Result
  ended at pieces r e end = (pieces, End, HasEnded (subst (λ n. ReadsWith b given text n pieces) e r) end)

  -- ---- one more than those supplied so far is given

  room : (at : ℕ) (pieces : List Piece) → ReadsWith b given text at pieces → (symbol : ℕ) → IsFirstWith (MaySupply b pieces) given symbol → length (supplied_behind pieces) < length given
  room at pieces r symbol first =
      let (once, among) = some_of r in
      let most = once_most (symbol ∷ supplied_behind pieces) given ((λ m. first.has.once (contains_from (supplied_behind pieces) symbol m)), once)
      (λ x m. elim m [ inl e ↦ subst (λ z. Among z given) e (among_from given symbol (contains_first first)) | inr old ↦ among x old ]) in
      omega (arith, most)

  -- what is read on from a later character
  abbrev Onward : ℕ → Type 0
  Onward at = (m : ℕ) (ps : List Piece) → at < m → ReadsWith b given text m ps → m ≤ length text → Result

  by_case : (at : ℕ) (pieces : List Piece) → ReadsWith b given text at pieces → at ≤ length text → Onward at → ((symbol : ℕ) → IsStuck b text pieces at → IsFirstWith (MaySupply b pieces) given symbol → Result) →
      (at < length text) ⊎ (length text ≤ at) → ((symbol : ℕ) × IsFirstWith (MaySupply b pieces) given symbol) ⊎ HasNone (MaySupply b pieces) given → Result
  by_case at pieces r le onward supply (inl lt) offers = elim (take_or at pieces r lt) [
    | inl (n, some, small, (piece, s)) ↦ onward (at + n) (pieces ++ piece ∷ []) (omega (arith, some)) s small
    | inr nothing ↦ elim offers [ inl (symbol, first) ↦ supply symbol (Within lt nothing) first | inr none ↦ stopped at pieces r lt nothing none ]
  ]
  by_case at pieces r le onward supply (inr ge) offers =
      let e : at ≡ length text = omega (arith, le, ge) in
      elim (has_tree pieces) [
        | inl tree ↦ ended at pieces r e (inl tree)
        | inr no_tree ↦ elim offers [ inl (symbol, first) ↦ supply symbol (Ended e no_tree) first | inr none ↦ ended at pieces r e (inr none) ]
      ]

  -- at one character no more are supplied than are given
  at_place : (left at : ℕ) (pieces : List Piece) → ReadsWith b given text at pieces → at ≤ length text → length given ≤ left + length (supplied_behind pieces) → Onward at → Result
  at_place zero at pieces r le most onward =
      by_case at pieces r le onward (λ symbol stuck first. let lt = room at pieces r symbol first in absurd (omega (arith, lt, most))) (cases_lt at (length text)) (supply_or pieces)
  at_place (suc k) at pieces r le most onward =
      by_case at pieces r le onward
      (λ symbol stuck first.
      at_place k at (pieces ++ supplied symbol ∷ []) (Supply symbol r stuck first) le
      (let e : length (supplied_behind (pieces ++ supplied symbol ∷ [])) ≡ length (supplied_behind pieces) + 1 = ap length (behind_supplied pieces symbol) ∙ length-append (supplied_behind pieces) (symbol ∷ []) in omega (arith, most, e))
      onward)
      (cases_lt at (length text)) (supply_or pieces)

  -- each piece of the text goes on
  read : (fuel at : ℕ) (pieces : List Piece) → ReadsWith b given text at pieces → at ≤ length text → length text ≤ at + fuel → Result
  read zero at pieces r le enough = at_place (length given) at pieces r le (omega arith) (λ m ps lt s small. absurd (omega (arith, enough, lt, small)))
  read (suc fuel) at pieces r le enough = at_place (length given) at pieces r le (omega arith) (λ m ps lt s small. read fuel m ps s small (omega (arith, enough, lt)))

pub reading_exists : ReadingExists
reading_exists b given text checked names = read b checked names given text (length text) 0 [] Begin (omega arith) (omega arith)
