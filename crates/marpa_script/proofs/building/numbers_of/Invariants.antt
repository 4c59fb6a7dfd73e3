use Rattle.marpa_script.proofs.Naming.{AreNumbersTo}
use Rattle.marpa_script.proofs.building.numbers_of.Given as goal

abbrev pub invariant-loop-name : goal.invariant-loop-name
invariant-loop-name l = AreNumbersTo l.w l.names l.name-index l.numbers.items
