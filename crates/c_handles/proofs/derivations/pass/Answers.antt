use Rattle.std.proofs.Common.{rules}
use Rattle.c_handles.proofs.Gathering.{one_given}
use Rattle.c_handles.proofs.derivations.pass.Goals as goal

pub passed-preserved : goal.passed-preserved
passed-preserved c = record {
  given = one_given c.passed.derivations.iteration c.next.new.self c.passed.counter c.passed.invariant.given c.in_ok-next.field-0 c.if-not-branch.false c.in_ok-next.ensures.answer;
  read = search rules;
  forest = search rules;
}
