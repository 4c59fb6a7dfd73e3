-- The bytes of an input are read to their end, or refused, in one way.
use Rattle.std.proofs.Common.{◌≡◌, ℕ, ◌≤◌, ◌<◌, ◌++◌, List, Bool, true, false, ◌⊎◌, inl, inr, refl, sym, ap, ◌∙◌, arith, length, chars, codes, decimal, nat_le, leb-true, slice_index_or, ◌∷◌}
use Rattle.std.proofs.lemmas.Bool.{leb-false}
use Rattle.std.specs.Str.{is_utf8}
use Rattle.std.specs.Fmt.{digits}
use Rattle.std.proofs.lemmas.Str.{utf8_valid_len-IsValidUpTo, IsUtf8-from_is_utf8}
use Rattle.grammar_model.specs.Trees.{Tree}
use Rattle.grammar_model.specs.declared.Ranking.{Ranking}
use Rattle.grammar_model.specs.declared.Ranking.TheVariants.{Rule as RuleRanks}
use Rattle.grammar_model.specs.declared.limits.TheConstants.{LONGEST_INPUT, LONGEST_GIVEN}
use Rattle.recognizer_model.specs.declared.ReportLine.{ReportLine}
use Rattle.report_model.specs.Report.{IsReport}
use Rattle.glade_model.specs.Glades.{Glade, AreGlades}
use Rattle.language_model.specs.Building.{Built}
use Rattle.language_model.specs.Texts.{IsBuilt}
use Rattle.reading_model.specs.Accepted.{IsAccepted}
use Rattle.reading_model.specs.Reading.{Piece, Ending, End, Stopped, IsReadingWith, AreExpected, edges_of, earleme_after}
use Rattle.reading_model.specs.Laws.{ReadingIsOne}
use Rattle.run_model.specs.Inputs.{input_limit, longer_text, IsInputText, IsBrokenInput, IsRead, IsInputRefused, TooLong, NotUtf8, ReadingStops, stop_text}
use Rattle.run_model.specs.Listing.{AreDerivations}
use Rattle.run_model.specs.Numbers.{Numbers, HasNumbers}
use Rattle.run_model.proofs.Given.{LexemesDiffer}
use Rattle.run_model.proofs.Utf8.{broken_at}

-- what is needed of readings: lexemes differ by their names, a text has one reading, whatever lexemes are given, and what follows its
-- pieces is listed: what is expected, all derivations, the numbers, reports, and glades where there is a derivation
pub record ReadingLaws : Type 0 where
  pub named : (b : Built) → IsBuilt b → LexemesDiffer b
  pub read : (b : Built) (given text : List ℕ) → IsBuilt b → IsAccepted b → (pieces : List Piece) × (ending : Ending) × IsReadingWith b given text pieces ending
  pub one : ReadingIsOne
  pub expected : (b : Built) (pieces : List Piece) → IsBuilt b → IsAccepted b → (symbols : List ℕ) × AreExpected b pieces symbols
  pub one_expected : (b : Built) (pieces : List Piece) (xs ys : List ℕ) → AreExpected b pieces xs → AreExpected b pieces ys → xs ≡ ys
  pub derivations : (b : Built) (ranking : Ranking) (pieces : List Piece) → IsBuilt b → IsAccepted b → (trees : List Tree) × AreDerivations b ranking pieces trees
  pub numbers : (b : Built) (ranking : Ranking) (pieces : List Piece) → IsBuilt b → IsAccepted b → (n : Numbers) × HasNumbers b ranking pieces n
  pub one_numbers : (b : Built) (ranking : Ranking) (pieces : List Piece) (m n : Numbers) → HasNumbers b ranking pieces m → HasNumbers b ranking pieces n → m ≡ n
  pub report : (b : Built) (pieces : List Piece) (at : ℕ) → IsBuilt b → IsAccepted b → (lines : List ReportLine) × IsReport b.g1 (edges_of pieces) 0 at lines
  pub one_report : (b : Built) (pieces : List Piece) (at : ℕ) (xs ys : List ReportLine) → IsReport b.g1 (edges_of pieces) 0 at xs → IsReport b.g1 (edges_of pieces) 0 at ys → xs ≡ ys
  pub glades : (b : Built) (pieces : List Piece) (tree : Tree) (trees : List Tree) → IsBuilt b → IsAccepted b → AreDerivations b RuleRanks pieces (tree ∷ trees) →
      (glades : List Glade) × AreGlades b.g1 (edges_of pieces) (slice_index_or b.g1.starts 0 0) (earleme_after pieces) glades

-- the limits are written in digits
pub longest_told : longer_text LONGEST_INPUT ≡ codes "input is longer than 16777216 bytes"
unfolding digits
longest_told = refl

pub given_told : longer_text LONGEST_GIVEN ≡ codes "input is longer than 1048576 bytes"
unfolding digits
given_told = refl

-- SOME OF ALL

-- bytes are too long, not UTF-8, or a text
pub data IsSomeInput (limit : ℕ) (bytes : List ℕ) : Type 0 where
  Long : limit < length bytes → IsSomeInput limit bytes
  Broken : (at : ℕ) → IsBrokenInput limit bytes at → IsSomeInput limit bytes
  Text : IsInputText limit bytes → IsSomeInput limit bytes

pub some_input : (limit : ℕ) (bytes : List ℕ) → IsSomeInput limit bytes
some_input limit bytes = by_length (nat_le (length bytes) limit) refl
  where
    by_utf8 : length bytes ≤ limit → (t : Bool) → is_utf8 bytes ≡ t → IsSomeInput limit bytes
    by_utf8 within true e = Text (record { within = within; utf8 = IsUtf8-from_is_utf8 bytes e })
    by_utf8 within false e = let (at, broken, prefix) = broken_at bytes e in Broken at (record { within = within; broken = broken; prefix = prefix })

    by_length : (t : Bool) → nat_le (length bytes) limit ≡ t → IsSomeInput limit bytes
    by_length true e = by_utf8 (leb-true _ _ e) (is_utf8 bytes) refl
    by_length false e = Long (leb-false _ _ e)

module _ (laws : ReadingLaws) (b : Built) (built : IsBuilt b) (accepted : IsAccepted b) (given bytes : List ℕ) where
  by_ending : IsInputText (input_limit given) bytes → (pieces : List Piece) (ending : Ending) → IsReadingWith b given (chars bytes) pieces ending →
      ((pieces : List Piece) × IsRead b given bytes pieces) ⊎ ((text : List ℕ) × IsInputRefused b given bytes text)
  by_ending text pieces End reading = inl (pieces, record { text = text; reading = reading })
  by_ending text pieces (Stopped at found expected) reading =
      inr (stop_text b.g1 (chars bytes) at found expected, ReadingStops pieces at found expected text reading refl)

  by_input : IsSomeInput (input_limit given) bytes → ((pieces : List Piece) × IsRead b given bytes pieces) ⊎ ((text : List ℕ) × IsInputRefused b given bytes text)
  by_input (Long long) = inr (longer_text (input_limit given), TooLong long refl)
  by_input (Broken at broken) = inr (codes "input is not UTF-8 at byte " ++ decimal at, NotUtf8 at broken refl)
  by_input (Text text) = let (pieces, ending, reading) = laws.read b given (chars bytes) built accepted in by_ending text pieces ending reading

  pub read_or : ((pieces : List Piece) × IsRead b given bytes pieces) ⊎ ((text : List ℕ) × IsInputRefused b given bytes text)
  read_or = by_input (some_input (input_limit given) bytes)

-- ONE OF EACH

-- bytes are UTF-8 up to one place
pub one_broken : (limit : ℕ) (bytes : List ℕ) (at at' : ℕ) → IsBrokenInput limit bytes at → IsBrokenInput limit bytes at' → at ≡ at'
one_broken limit bytes at at' broken broken' = sym (utf8_valid_len-IsValidUpTo bytes at broken.prefix) ∙ utf8_valid_len-IsValidUpTo bytes at' broken'.prefix

end_or_stopped : (at : ℕ) (found expected : List ℕ) → End ≡ Stopped at found expected → ⊥
end_or_stopped at found expected e = cc e

module _ (laws : ReadingLaws) (b : Built) (given bytes : List ℕ) where
  pub one_read : (xs ys : List Piece) → IsRead b given bytes xs → IsRead b given bytes ys → xs ≡ ys
  one_read xs ys p q = (laws.one b given (chars bytes) xs ys End End p.reading q.reading).0

  pub not_both : (pieces : List Piece) (text : List ℕ) → IsRead b given bytes pieces → IsInputRefused b given bytes text → ⊥
  not_both pieces text read (TooLong long is) = let w = read.text.within in absurd (omega (arith, w, long))
  not_both pieces text read (NotUtf8 at broken is) = broken.broken read.text.utf8
  not_both pieces text read (ReadingStops others at found expected is_text reading is) =
      end_or_stopped at found expected (laws.one b given (chars bytes) pieces others End (Stopped at found expected) read.reading reading).1

  same_stop : (xs ys : List Piece) (at at' : ℕ) (found found' expected expected' : List ℕ) → IsReadingWith b given (chars bytes) xs (Stopped at found expected) →
      IsReadingWith b given (chars bytes) ys (Stopped at' found' expected') → stop_text b.g1 (chars bytes) at found expected ≡ stop_text b.g1 (chars bytes) at' found' expected'
  same_stop xs ys at at' found found' expected expected' p q =
      let same = (laws.one b given (chars bytes) xs ys _ _ p q).1 in
      let one : at ≡ at' = cc same in
      let two : found ≡ found' = cc same in
      let three : expected ≡ expected' = cc same in
      cc (one, two, three)

  pub one_refused : (x y : List ℕ) → IsInputRefused b given bytes x → IsInputRefused b given bytes y → x ≡ y
  one_refused x y (TooLong long is) (TooLong long' is') = is ∙ sym is'
  one_refused x y (TooLong long is) (NotUtf8 at broken is') = let w = broken.within in absurd (omega (arith, w, long))
  one_refused x y (TooLong long is) (ReadingStops pieces at found expected text reading is') = let w = text.within in absurd (omega (arith, w, long))
  one_refused x y (NotUtf8 at broken is) (TooLong long is') = let w = broken.within in absurd (omega (arith, w, long))
  one_refused x y (NotUtf8 at broken is) (NotUtf8 at' broken' is') =
      is ∙ ap (λ k. codes "input is not UTF-8 at byte " ++ decimal k) (one_broken (input_limit given) bytes at at' broken broken') ∙ sym is'
  one_refused x y (NotUtf8 at broken is) (ReadingStops pieces at' found expected text reading is') = absurd (broken.broken text.utf8)
  one_refused x y (ReadingStops pieces at found expected text reading is) (TooLong long is') = let w = text.within in absurd (omega (arith, w, long))
  one_refused x y (ReadingStops pieces at found expected text reading is) (NotUtf8 at' broken is') = absurd (broken.broken text.utf8)
  one_refused x y (ReadingStops pieces at found expected text reading is) (ReadingStops pieces' at' found' expected' text' reading' is') =
      is ∙ same_stop pieces pieces' at at' found found' expected expected' reading reading' ∙ sym is'
