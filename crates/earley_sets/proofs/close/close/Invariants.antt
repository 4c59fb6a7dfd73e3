use Rattle.std.proofs.Common.{◌+◌, ◌↔◌, IsTrue, length, take}
use Rattle.leo_items.specs.ByRows.{NotesMore}
use Rattle.begun_lists.specs.Closing.{GoesOn}
use Rattle.leo_items.specs.Closed.{IsClosedTo}
use Rattle.begun_lists.specs.Tried.{RisesWithin}
use Rattle.earley_sets.specs.Tried.{MakesOne}
use Rattle.earley_sets.specs.Hiding.{OneStepsTwice}
use Rattle.earley_sets.proofs.close.close.Given as goal

abbrev pub invariant-loop-k : goal.invariant-loop-k
invariant-loop-k g l = record {
  closed : IsClosedTo l.flat (GoesOn l.flat l.rows.sets l.earleme) l.initial.set l.set l.k;
  memo : NotesMore l.flat l.rows.sets l.initial.memo l.memo;
  twice : IsTrue l.twice ↔ OneStepsTwice l.flat l.rows.sets l.earleme (take l.k l.set);
  counted : RisesWithin (MakesOne l.flat l.rows.sets l.earleme (take l.k l.set)) (l.initial.steps + length l.memo) (l.steps + length l.initial.memo);
}
