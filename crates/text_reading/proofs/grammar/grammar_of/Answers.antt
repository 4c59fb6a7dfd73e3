use Rattle.std.proofs.Common.{arith}
use Rattle.text_reading.proofs.Refusing.{too_long}
use Rattle.text_reading.proofs.grammar.grammar_of.Goals as goal

pub returns-then-bytes-gt-LONGEST_GRAMMAR-clause-refused : goal.returns-then-bytes-gt-LONGEST_GRAMMAR-clause-refused
returns-then-bytes-gt-LONGEST_GRAMMAR-clause-refused c = too_long c.args.bytes.now c.in_ok-text.text.items (omega (arith, c.if-bytes-gt-LONGEST_GRAMMAR.true)) c.in_ok-text.ensures
