-- A text of the job's own characters is read into one token for each, where their terminals have a derivation.
use Rattle.std.proofs.Common.{◌≡◌, ◌↔◌, inl, ℕ, zero, suc, ◌+◌, ◌<◌, ◌≤ℤ◌, pos, List, [], ◌∷◌, ◌++◌, length, slice_get, slice_index_or, Contains, Some, refl, sym, ◌∙◌, ap, subst, arith, lit<, append_assoc, append-nil, length-append}
use Rattle.std.specs.List.Sorted.{IsStrictlySortedBy}
use Rattle.std.specs.Int.Signed.{≤ℤ_refl}
use Rattle.std.proofs.lemmas.Option.{same_Some}
use Rattle.grammar_model.specs.Grammar.{slot_of}
use Rattle.grammar_model.specs.Trees.{Tree}
use Rattle.grammar_model.specs.Derives.{Line, Derives}
use Rattle.language_model.specs.Building.{LexemeRow}
use Rattle.reading_model.specs.Matches.{Matches}
use Rattle.reading_model.specs.Reading.{Piece, IsNext, IsCandidate, ADiscard, ALexeme, IsLongest, IsFitting, IsKept, Reads, Begin, Take}
use Rattle.work_laws.proofs.Building.{work_g1, work_built, row}
use Rattle.work_laws.proofs.Lines.{get_right}
use Rattle.work_laws.proofs.Shapes.{At}
use Rattle.work_laws.proofs.Pieces.{one, ones, one_more, ones_spelled}
use Rattle.work_laws.proofs.Matching.{spelling, one_spelling, matches, matched}

-- ---- lexemes

row_is : (n : ℕ) (d : LexemeRow) → n < 3 → slice_index_or work_built.lexemes n d ≡ row (2 + n) n
row_is zero d lt = refl
row_is (suc zero) d lt = refl
row_is (suc (suc zero)) d lt = refl
row_is (suc (suc (suc n))) d lt = absurd (omega arith)

has_row : (n : ℕ) → n < 3 → Contains work_built.lexemes (row (2 + n) n)
has_row n lt = (n, lt, row_is n _ lt)

is_row : (l : LexemeRow) → Contains work_built.lexemes l → (n : ℕ) × (n < 3) × (row (2 + n) n ≡ l)
is_row l (n, lt, e) = (n, lt, sym (row_is n l lt) ∙ e)

-- what is looked for is one of the three starts
pub candidate_below : (pieces : List Piece) (start : ℕ) → IsCandidate work_built pieces start → start < 3
candidate_below pieces start (ADiscard (k, lt, e)) = absurd (omega (arith, lt))
candidate_below pieces start (ALexeme l has is why) =
    let (n, lt, e) = is_row l has in
    let number : n ≡ l.start = ap (λ (r : LexemeRow). r.start) e in
    omega (arith, lt, number, is)

-- ---- one token

module _ (text : List ℕ) (pieces : List Piece) (at n : ℕ) (below : n < 3) (here : slice_get text at ≡ Some (spelling n)) where
  longest : IsLongest work_built text pieces at 1
  longest = record {
    some = lit< tt;
    start = n;
    candidate = ALexeme (row (2 + n) n) (has_row n below) refl (inl refl);
    matches = matches text n at (at + 1) below here (omega arith);
    longest = λ other m c h. (let (e, is) = matched text other at (at + m) (candidate_below pieces other c) h in omega (arith, e));
  }

  fitting : IsNext work_built pieces (2 + n) → IsFitting work_built text pieces at 1 (row (2 + n) n)
  fitting next = record { lexeme = has_row n below; next = next; matches = matches text n at (at + 1) below here (omega arith) }

  -- whatever fits is the lexeme of this character
  fits_one : (l : LexemeRow) → IsFitting work_built text pieces at 1 l → row (2 + n) n ≡ l
  fits_one l f =
      let (m, lt, e) = is_row l f.lexeme in
      let start : l.start ≡ m = sym (ap (λ (r : LexemeRow). r.start) e) in
      let (next, is) = matched text m at (at + 1) lt (subst (λ z. Matches work_built text z at (at + 1)) start f.matches) in
      let same : n ≡ m = one_spelling n m below lt (same_Some _ _ (sym here ∙ is)) in
      ap (λ z. row (2 + z) z) same ∙ e

  kept : IsNext work_built pieces (2 + n) → IsKept work_built text pieces at 1 (2 + n)
  kept next = record {
    row = row (2 + n) n;
    symbol_is = refl;
    fitting = fitting next;
    highest = λ other f. subst (λ (l : LexemeRow). l.priority ≤ℤ pos 0) (fits_one other f) (≤ℤ_refl (pos 0));
  }

  only_kept : IsNext work_built pieces (2 + n) → (symbol : ℕ) → Contains ((2 + n) ∷ []) symbol ↔ IsKept work_built text pieces at 1 symbol
  only_kept next symbol = (to, from)
    where
      to : Contains ((2 + n) ∷ []) symbol → IsKept work_built text pieces at 1 symbol
      to (zero, lt, e) = subst (IsKept work_built text pieces at 1) e (kept next)
      to (suc k, lt, e) = absurd (omega (arith, lt))

      from : IsKept work_built text pieces at 1 symbol → Contains ((2 + n) ∷ []) symbol
      from k = (0, lit< tt, ap (λ (r : LexemeRow). r.symbol) (fits_one k.row k.fitting) ∙ k.symbol_is)

  pub taken : Reads work_built text at pieces → at < length text → IsNext work_built pieces (2 + n) → Reads work_built text (at + 1) (pieces ++ one (2 + n) ∷ [])
  unfolding IsStrictlySortedBy
  taken reads within next = Take (2 + n) [] reads within longest (tt, tt) (only_kept next)

-- ---- the whole text

-- the characters are those of the terminals
pub record AreSpelled (w text : List ℕ) : Type 0 where
  pub long : length text ≡ length w
  pub each : (i s : ℕ) → At w i s → (n : ℕ) × (n < 3) × (2 + n ≡ s) × (slice_get text i ≡ Some (spelling n))

module _ (w text : List ℕ) (spelled : AreSpelled w text) (derived : (t : Tree) × Derives work_g1 (Line w) (slot_of 0) 0 (length w) t) where
  -- the rest of the line is what the terminal can go on with
  next : (before after : List ℕ) (s : ℕ) → before ++ s ∷ after ≡ w → IsNext work_built (ones before) s
  next before after s e =
      let (t, d) = derived in
      record { before = before; after = after; tree = t; spelled = ones_spelled before; derived = subst (λ z. Derives work_g1 (Line z) (slot_of 0) 0 (length z) t) (sym e) d }

  step : (before after : List ℕ) (s : ℕ) → before ++ s ∷ after ≡ w → Reads work_built text (length before) (ones before) → Reads work_built text (length (before ++ s ∷ [])) (ones (before ++ s ∷ []))
  step before after s e reads =
      let here : At w (length before) s = subst (λ z. At z (length before) s) e (get_right before (s ∷ after) 0 (length before) (omega arith)) in
      let (n, lt, is, c) = spelled.each (length before) s here in
      let all = ap length e in
      let parts = length-append {A = ℕ} before (s ∷ after) in
      let within : length before < length text = omega (arith, all, parts, spelled.long) in
      let took = taken text (ones before) (length before) n lt c reads within (subst (IsNext work_built (ones before)) (sym is) (next before after s e)) in
      let added = length-append {A = ℕ} before (s ∷ []) in
      let far : length before + 1 ≡ length (before ++ s ∷ []) = sym added in
      subst (λ z. Reads work_built text z (ones (before ++ s ∷ []))) far
      (subst (Reads work_built text (length before + 1)) (sym (one_more before s)) (subst (λ z. Reads work_built text (length before + 1) (ones before ++ one z ∷ [])) is took))

  onward : (before after : List ℕ) → before ++ after ≡ w → Reads work_built text (length before) (ones before) → Reads work_built text (length w) (ones w)
  onward before [] e reads = subst (λ z. Reads work_built text (length z) (ones z)) (sym (append-nil before) ∙ e) reads
  onward before (s ∷ after) e reads = onward (before ++ s ∷ []) after (append_assoc before (s ∷ []) after ∙ e) (step before after s e reads)

  pub all_read : Reads work_built text (length text) (ones w)
  all_read = subst (λ z. Reads work_built text z (ones w)) (sym spelled.long) (onward [] w refl Begin)
