use Rattle.std.proofs.Common.{◌≡◌, take}
use Rattle.language_model.specs.Building.{digits_number}
use Rattle.dsl_build.proofs.numbers.digits_number.Given as goal

abbrev pub invariant-loop-digit : goal.invariant-loop-digit
invariant-loop-digit l = l.number ≡ digits_number (take l.digit-index l.digits)
