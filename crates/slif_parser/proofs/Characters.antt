-- What is seen of an input that is read.
use Rattle.std.proofs.Common.{◌≡◌, ℕ, ◌≤◌, ◌<◌, List, [], ◌∷◌, length, chars, IsUtf8, refl, sym, ap, subst, arith}
use Rattle.std.proofs.lemmas.Str.{length-le-encodes, encodes-chars}
use Rattle.grammar_model.specs.declared.limits.TheConstants.{LONGEST_GIVEN}
use Rattle.grammar_core.specs.declared.steps.Span.{Span}
use Rattle.language_model.specs.Building.{Built}
use Rattle.earley_sets.specs.Recognizer.{Recognizer}
use Rattle.reading_model.specs.Reading.{End as AtEnd, IsReadingWith}
use Rattle.run_model.specs.Inputs.{input_limit}
use Rattle.scanless.specs.Reading.{IsReadingOfWith}
use Rattle.scanless.specs.declared.reading.Ending.TheVariants.{End}
use Rattle.slif_parser.specs.Readings.{IsReadAs}

-- no more characters than bytes
pub few_characters : (limit : ℕ) (bytes cs : List ℕ) → IsUtf8 bytes → cs ≡ chars bytes → length bytes ≤ limit → length cs ≤ limit
few_characters limit bytes cs utf8 is within = omega (arith, ap length is, length-le-encodes (chars bytes), ap length (encodes-chars bytes utf8), within)

-- where lexemes are given, an input has their limit
pub limit_of_some : (lexemes : List ℕ) → 0 < length lexemes → input_limit lexemes ≡ LONGEST_GIVEN
limit_of_some [] some = absurd (omega (arith, some))
limit_of_some (x ∷ xs) some = refl

pub within_given : (lexemes bytes : List ℕ) → 0 < length lexemes → length bytes ≤ LONGEST_GIVEN → length bytes ≤ input_limit lexemes
within_given lexemes bytes some within = subst (λ limit. length bytes ≤ limit) (sym (limit_of_some lexemes some)) within

pub read_as : (b : Built) (lexemes bytes cs : List ℕ) (recce : Recognizer) (spans : List Span) → length bytes ≤ input_limit lexemes → IsUtf8 bytes → cs ≡ chars bytes → IsReadingOfWith b lexemes cs recce spans End →
    IsReadAs b lexemes bytes (record { grammar = b; lexemes = lexemes; characters = cs; spans = spans })
read_as b lexemes bytes cs recce spans within utf8 is read = record {
  grammar_is = refl;
  lexemes_are = refl;
  characters_are = is;
  pieces = read.pieces;
  is = record { text = record { within = within; utf8 = utf8 }; reading = subst (λ (l : List ℕ). IsReadingWith b lexemes l read.pieces AtEnd) is read.is_reading };
  spans_are = read.spans_are;
}
