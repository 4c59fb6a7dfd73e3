use Rattle.std.proofs.Common.{arith}
use Rattle.grammar_check.proofs.table.slots_at.Goals as goal

pub returns : goal.returns
returns c =
    let long = c.loop-x.invariant.sized in
    let done = c.loop-x-test.false in
    record {
      sized = omega arith;
      numbered = λ i lt. c.loop-x.invariant.numbered i (omega (arith, lt, done));
      same = λ i lt. c.loop-x.invariant.same i (omega (arith, lt, done));
    }
