use Rattle.std.proofs.Common.{arith}
use Rattle.std.proofs.lemmas.Str.{IsCharBoundary-start, IsCharBoundary-after_ascii}
use Rattle.std.proofs.lemmas.Int.Digits.{digits_more}
use Rattle.std.proofs.lemmas.Bool.Decides.{nat_tests}
use Rattle.tree_text.proofs.read.split_digits.Goals as goal

pub loop-count-init : goal.loop-count-init
loop-count-init c = record {
  within = omega arith;
  digits = tt;
  boundary = IsCharBoundary-start c.args.text.now c.utf8.text;
}

pub loop-count-preserved : goal.loop-count-preserved
loop-count-preserved c = record {
  within = omega arith;
  digits = digits_more 10 c.args.text.now c.loop-count.count (omega arith) c.loop-count.invariant.digits (grind (arith, nat_tests));
  boundary = IsCharBoundary-after_ascii c.args.text.now c.loop-count.count c.utf8.text (omega arith) (grind (arith, nat_tests));
}
