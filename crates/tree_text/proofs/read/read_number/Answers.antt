use Rattle.tree_text.proofs.Numbers.{no_number_zero, no_number_parse, some_number}
use Rattle.tree_text.proofs.read.read_number.Goals as goal

pub returns-then-has_leading_zero : goal.returns-then-has_leading_zero
returns-then-has_leading_zero c =
    no_number_zero _ _ _ c.split_digits.ensures.whole c.split_digits.ensures.digits c.split_digits.ensures.end c.if-has_leading_zero.ensures

pub returns-in-Ok : goal.returns-in-Ok
returns-in-Ok c =
    some_number _ _ _ _ c.split_digits.ensures.whole c.split_digits.ensures.digits c.split_digits.ensures.end c.if-has_leading_zero.ensures c.in-Ok.ensures.value.0

pub returns-in-Err : goal.returns-in-Err
returns-in-Err c =
    no_number_parse _ _ _ c.split_digits.ensures.whole c.split_digits.ensures.digits c.split_digits.ensures.end c.in-Err.ensures.value.0
