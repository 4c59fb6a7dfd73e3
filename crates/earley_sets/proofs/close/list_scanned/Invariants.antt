use Rattle.std.proofs.Common.{length, take}
use Rattle.begun_lists.specs.Tried.{RisesWithin}
use Rattle.earley_sets.specs.Tried.{MakesScan}
use Rattle.earley_sets.proofs.Scanning.{ListedTo}
use Rattle.earley_sets.proofs.close.list_scanned.Given as goal

abbrev pub invariant-loop-edge : goal.invariant-loop-edge
invariant-loop-edge l = record {
  listed : ListedTo l.flat l.rows.sets l.earleme l.edge-items l.initial.next.items l.next.items l.edge-index;
  links : RisesWithin (MakesScan l.flat l.rows.sets l.earleme (take l.edge-index l.edge-items)) (length l.initial.next.items) (length l.next.items);
}
