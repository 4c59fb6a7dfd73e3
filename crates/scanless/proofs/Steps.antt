-- Reading piece by piece: what is read goes on, or ends.
use Rattle.std.proofs.Common.{arith, inl, inr, ◌≡◌, ◌↔◌, ◌⊎◌, ℕ, ◌+◌, ◌<◌, ◌≤◌, List, [], ◌∷◌, ◌++◌, length, map, Option, Some, None, Contains, Vec, Global, refl, sym, ◌∙◌, ap, subst}
use Rattle.std.specs.List.Sorted.{IsStrictlySortedBy}
use Rattle.std.specs.Ordering.{nat_cmp}
use Rattle.finite_sets.proofs.Lists.{Contains-none}
use Rattle.grammar_core.specs.declared.steps.Span.{Span}
use Rattle.flat_model.specs.Flattened.{IsFlattened}
use Rattle.language_model.specs.Building.{Built}
use Rattle.reading_model.specs.First.{IsFirstWith, HasNone}
use Rattle.reading_model.specs.Reading as model
use Rattle.reading_model.specs.Reading.{Piece, Token, Skipped, supplied, IsLongest, IsKept, IsKeptNone, IsSkipped, IsStuck, HasDerivation, MaySupply, supplied_behind, AreExpected, ReadsWith, Begin, Take, Skip, Supply, HasEnded, HasStopped}
use Rattle.reading_model.proofs.Within.{match_within}
use Rattle.earley_sets.specs.Recognizer.{Recognizer}
use Rattle.scanless.specs.declared.reading.Ending.TheVariants.{End, Stopped}
use Rattle.scanless.specs.Taking.{Takes}
use Rattle.scanless.specs.Cutting.{TakesToken}
use Rattle.scanless.specs.Reading.{span_of, HoldsPieces, IsReadingOfWith, HasRead, ReadSoFar, GoesOn, IsSameOrLonger, ComesToRest, IsResting, RestsWith, StopsWith, IsOver}
use Rattle.scanless.proofs.Holding.{spans_with_token, spans_with_skipped, holds_token, holds_skipped}

module _ (b : Built) (given text : List ℕ) where
  pub has_begun : (recce : Recognizer) → IsFlattened b.g1 recce.flat → recce.start ≡ 0 → recce.edges ≡ [] → length recce.sets ≡ 1 → HasRead b given text [] 0 recce []
  has_begun recce flat start edges one = record {
    reads = Begin;
    within = omega arith;
    holds = record { flat = flat; start = start; edges = edges; place = omega (arith, one) };
    spans_are = refl;
  }

  -- what is longest ends within the text
  longest_within : (pieces : List Piece) (at n : ℕ) → IsLongest b text pieces at n → at + n ≤ length text
  longest_within pieces at n longest = match_within b text longest.start at n longest.some longest.matches

  module _ (pieces : List Piece) (at : ℕ) (recce : Recognizer) (spans : List Span) (read : HasRead b given text pieces at recce spans) where
    taken : (n : ℕ) (kept : List ℕ) → at < length text → IsLongest b text pieces at n → 0 < length kept → IsStrictlySortedBy nat_cmp kept → ((symbol : ℕ) → Contains kept symbol ↔ IsKept b text pieces at n symbol) →
        ReadsWith b given text (at + n) (pieces ++ Token n kept ∷ [])
    taken n [] more longest some sorted exact = absurd (omega (arith, some))
    taken n (first ∷ others) more longest some sorted exact = Take first others read.reads more longest sorted exact

    pub reads_token : (n : ℕ) (new : Recognizer) (spans' : List Span) → at < length text → (takes : TakesToken b text pieces at n recce new) → map span_of spans' ≡ map span_of spans ++ (at, n) ∷ [] →
        HasRead b given text (pieces ++ Token n takes.symbols ∷ []) (at + n) new spans'
    reads_token n new spans' more takes spans_are = record {
      reads = taken n takes.symbols more takes.longest takes.some takes.sorted takes.exact;
      within = longest_within pieces at n takes.longest;
      holds = holds_token b pieces recce read.holds new n takes.symbols takes.takes;
      spans_are = spans_are ∙ (ap (λ l. l ++ (at, n) ∷ []) read.spans_are ∙ sym (spans_with_token read.reads n takes.symbols));
    }

    pub reads_skipped : (n : ℕ) → at < length text → IsLongest b text pieces at n → IsKeptNone b text pieces at n → IsSkipped b text pieces at n → HasRead b given text (pieces ++ Skipped n ∷ []) (at + n) recce spans
    reads_skipped n more longest none skipped = record {
      reads = Skip read.reads more longest none skipped;
      within = longest_within pieces at n longest;
      holds = holds_skipped b pieces recce read.holds n;
      spans_are = read.spans_are ∙ sym (spans_with_skipped pieces n);
    }

    pub reads_supplied : (symbol : ℕ) (new : Recognizer) (spans' : List Span) → IsStuck b text pieces at → IsFirstWith (MaySupply b pieces) given symbol → Takes recce new (symbol ∷ []) →
        map span_of spans' ≡ map span_of spans ++ (at, 0) ∷ [] → HasRead b given text (pieces ++ supplied symbol ∷ []) at new spans'
    reads_supplied symbol new spans' stuck first takes spans_are = record {
      reads = Supply symbol read.reads stuck first;
      within = read.within;
      holds = holds_token b pieces recce read.holds new 0 (symbol ∷ []) takes;
      spans_are = spans_are ∙ (ap (λ l. l ++ (at, 0) ∷ []) read.spans_are ∙ sym (spans_with_token read.reads 0 (symbol ∷ [])));
    }

    pub has_stopped : (found expected : List ℕ) → StopsWith b text pieces at found → HasNone (MaySupply b pieces) given → AreExpected b pieces expected →
        model.IsReadingWith b given text pieces (model.Stopped at found expected)
    has_stopped found expected stuck none are = HasStopped read.reads stuck.more stuck.none none stuck.are_found are

    pub has_ended : at ≡ length text → HasDerivation b pieces ⊎ HasNone (MaySupply b pieces) given → IsReadingOfWith b given text recce spans End
    has_ended all over = record {
      pieces = pieces;
      is_reading = HasEnded (subst (λ k. ReadsWith b given text k pieces) all read.reads) over;
      holds = read.holds;
      spans_are = read.spans_are;
    }

-- ---- as a reader is seen

module _ (given text : List ℕ) (pieces : List Piece) where
  pub goes_through : (old mid new : ReadSoFar) → (first : GoesOn given text pieces old mid) → GoesOn given text first.pieces mid new → GoesOn given text pieces old new
  goes_through old mid new first second = record {
    pieces = second.pieces;
    has_read = second.has_read;
    same_or = both first.same_or second.same_or;
  }
    where
      both : IsSameOrLonger pieces first.pieces old.at mid.at → IsSameOrLonger first.pieces second.pieces mid.at new.at → IsSameOrLonger pieces second.pieces old.at new.at
      both (inl (at, same)) (inl (at', same')) = inl (at' ∙ at, same' ∙ same)
      both (inl (at, same)) (inr (more, none)) = inr (omega (arith, at, more), none)
      both (inr (more, none)) (inl (at, same)) = inr (omega (arith, at, more), ap supplied_behind same ∙ none)
      both (inr (more, none)) (inr (more', none')) = inr (omega (arith, more, more'), none')

  pub comes_to_end : (old new : ReadSoFar) → GoesOn given text pieces old new → length text ≤ new.at → ComesToRest given text pieces old new None
  comes_to_end old new goes all =
      let within = goes.has_read.within in
      let e : new.at ≡ length text = omega (arith, all, within) in
      (record { pieces = goes.pieces; has_read = goes.has_read; rests = e }, goes.same_or)

  pub comes_to_stop : (old new : ReadSoFar) (found : Vec ℕ Global) → (goes : GoesOn given text pieces old new) → StopsWith new.grammar text goes.pieces new.at found.items → ComesToRest given text pieces old new (Some found)
  comes_to_stop old new found goes stops = (record { pieces = goes.pieces; has_read = goes.has_read; rests = stops }, goes.same_or)

module _ (given text : List ℕ) (r : ReadSoFar) where
  pub finished : (found : Option (Vec ℕ Global)) → found ≡ None → (rests : IsResting given text r found) → IsOver r.grammar given rests.pieces found → IsReadingOfWith r.grammar given text r.recce r.spans End
  finished found is rests over =
      has_ended r.grammar given text rests.pieces r.at r.recce r.spans rests.has_read (subst (RestsWith r.grammar text rests.pieces r.at) is rests.rests) (subst (IsOver r.grammar given rests.pieces) is over)

  pub stopped : (found : Option (Vec ℕ Global)) (f expected : Vec ℕ Global) → found ≡ Some f → (rests : IsResting given text r found) → IsOver r.grammar given rests.pieces found →
      ((pieces : List Piece) → HoldsPieces r.grammar pieces r.recce → AreExpected r.grammar pieces expected.items) → IsReadingOfWith r.grammar given text r.recce r.spans (Stopped r.at f expected)
  stopped found f expected is rests over are = record {
    pieces = rests.pieces;
    is_reading = has_stopped r.grammar given text rests.pieces r.at r.recce r.spans rests.has_read f.items expected.items (subst (RestsWith r.grammar text rests.pieces r.at) is rests.rests) (subst (IsOver r.grammar given rests.pieces) is over) (are rests.pieces rests.has_read.holds);
    holds = rests.has_read.holds;
    spans_are = rests.has_read.spans_are;
  }

-- where no lexeme is given, none may be supplied
pub over_without : (b : Built) (pieces : List Piece) (found : Option (Vec ℕ Global)) → IsOver b [] pieces found
over_without b pieces None = inr (λ s c may. Contains-none s c)
over_without b pieces (Some found) = λ s c may. Contains-none s c
