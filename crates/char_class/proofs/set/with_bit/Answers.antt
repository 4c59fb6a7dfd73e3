use Rattle.char_class.proofs.MembersLemmas.{bit_set}
use Rattle.char_class.proofs.set.with_bit.Goals as goal

pub returns-then-code-lt128 : goal.returns-then-code-lt128
returns-then-code-lt128 c = λ x lt. bit_set c.args.bits c.args.code c.if-code-lt128.true x
