-- What becomes of the bytes of an input: they are a text that is read to its end, or a line tells why not.
-- Source: the Marpa::R2 SLIF DSL manual (reading, rejected input); the texts are our own.
use Rattle.std.specs.Prelude.{◌≡◌, ℕ, ◌++◌, ◌<◌, ◌≤◌, List, [], ◌∷◌, length, map, chars, codes, decimal, IsUtf8}
use Rattle.std.specs.Str.{IsValidUpTo}
use Rattle.grammar_model.specs.Grammar.{Grammar}
use Rattle.grammar_model.specs.Values.{name_of}
use Rattle.grammar_model.specs.declared.limits.TheConstants.{LONGEST_INPUT, LONGEST_GIVEN}
use Rattle.language_model.specs.Building.{Built}
use Rattle.reading_model.specs.Reading.{Piece, End, Stopped, IsReadingWith}
use Rattle.run_model.specs.Refused.{at_place, listed}

-- the greatest length of an input, where these lexemes are given
abbrev pub input_limit : {A : Type 0} → (given : List A) → ℕ
input_limit [] = LONGEST_INPUT
input_limit (x ∷ xs) = LONGEST_GIVEN

-- the bytes are a text that is not too long
pub record IsInputText (limit : ℕ) (bytes : List ℕ) : Type 0 where
  pub within : length bytes ≤ limit
  pub utf8 : IsUtf8 bytes

-- the first so many bytes are the longest prefix that is UTF-8
pub record IsBrokenInput (limit : ℕ) (bytes : List ℕ) (at : ℕ) : Type 0 where
  pub within : length bytes ≤ limit
  pub broken : ¬ (IsUtf8 bytes)
  pub prefix : IsValidUpTo bytes at

abbrev pub longer_text : (limit : ℕ) → List ℕ
longer_text limit = codes "input is longer than " ++ (decimal limit ++ codes " bytes")

abbrev pub names_text : Grammar → List ℕ → List ℕ
names_text g symbols = listed (map (name_of g) symbols)

-- what is told of a stop at a place of these characters
abbrev pub stop_text : Grammar → List ℕ → ℕ → (found expected : List ℕ) → List ℕ
stop_text g cs at found expected =
    codes "input stopped" ++ (at_place cs at ++ (codes "; found: " ++ (names_text g found ++ (codes "; expected: " ++ names_text g expected))))

-- the bytes are a text that is read to its end, in these pieces
pub record IsRead (b : Built) (given bytes : List ℕ) (pieces : List Piece) : Type 0 where
  pub text : IsInputText (input_limit given) bytes
  pub reading : IsReadingWith b given (chars bytes) pieces End

-- the bytes are not read to their end, as this text tells
pub data IsInputRefused (b : Built) (given bytes text : List ℕ) : Type 0 where
  TooLong : input_limit given < length bytes → text ≡ longer_text (input_limit given) →
      IsInputRefused b given bytes text
  NotUtf8 : (at : ℕ) → IsBrokenInput (input_limit given) bytes at →
      text ≡ codes "input is not UTF-8 at byte " ++ decimal at → IsInputRefused b given bytes text
  ReadingStops : (pieces : List Piece) (at : ℕ) (found expected : List ℕ) →
      IsInputText (input_limit given) bytes →
      IsReadingWith b given (chars bytes) pieces (Stopped at found expected) →
      text ≡ stop_text b.g1 (chars bytes) at found expected → IsInputRefused b given bytes text
