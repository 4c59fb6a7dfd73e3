use Rattle.std.proofs.Common.{arith}
use Rattle.dsl_faults.proofs.Counting.{digits_prefix}
use Rattle.dsl_build.proofs.numbers.digits_number.Goals as goal

pub overflow_mul-number : goal.overflow_mul-number
overflow_mul-number c = let f = digits_prefix c.args.digits.now c.loop-digit.digit-index in omega (arith, c.loop-digit.invariant, f, c.requires)

pub overflow_add-number : goal.overflow_add-number
overflow_add-number c = let f = digits_prefix c.args.digits.now c.loop-digit.digit-index in omega (arith, c.loop-digit.invariant, f, c.requires, c.digit_value.ensures.small)
