use Rattle.std.proofs.Common.{rules}
use Rattle.scanning_calls.proofs.Gathering.{one_given}
use Rattle.scanning_calls.proofs.kept.pass.Goals as goal

pub passed-preserved : goal.passed-preserved
passed-preserved g c = record {
  given = one_given c.passed.iter c.next.new.self c.passed.counter c.passed.invariant.given c.in_ok-next.field-0 c.if-not-branch.false c.in_ok-next.ensures.answer;
  forest = search rules;
}
