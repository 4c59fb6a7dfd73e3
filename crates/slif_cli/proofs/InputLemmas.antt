-- What is told of an input that is refused.
use Rattle.std.proofs.Common.{ℕ, ◌≤◌, [], ◌∷◌, List, Option, length, chars, IsUtf8, lit≤}
use Rattle.grammar_model.specs.declared.limits.TheConstants.{LONGEST_INPUT}
use Rattle.language_model.specs.Building.{Built}
use Rattle.run_model.specs.Inputs.{input_limit, IsInputRefused, NotUtf8, ReadingStops}
use Rattle.text_reading.specs.declared.refusal.Place.{Place}
use Rattle.text_reading.specs.Parts.{IsBrokenText, IsStopText}

-- each limit is within that of all inputs
pub within_all : (given : List ℕ) → input_limit given ≤ LONGEST_INPUT
within_all [] = lit≤ tt
within_all (x ∷ xs) = lit≤ tt

module _ (b : Built) (given bytes : List ℕ) (within : length bytes ≤ input_limit given) where
  pub refused_broken : (text : List ℕ) (place : Option Place) (expected : List ℕ) → IsBrokenText bytes text place expected → IsInputRefused b given bytes text
  refused_broken text place expected broken = NotUtf8 broken.at (record { within = within; broken = broken.broken; prefix = broken.prefix }) broken.told

  pub refused_stop : IsUtf8 bytes → (text : List ℕ) (place : Option Place) (expected : List ℕ) → IsStopText b given (chars bytes) text place expected → IsInputRefused b given bytes text
  refused_stop utf8 text place expected stop = ReadingStops stop.pieces stop.at stop.found expected (record { within = within; utf8 = utf8 }) stop.reading stop.told
