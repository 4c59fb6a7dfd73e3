use Rattle.std.proofs.Common.{◌≡◌, List, [], Option, Ok, take}
use Rattle.std.specs.Prelude.{flat_map, option_map}
use Rattle.std.specs.Fn.{FnReturnsAt}
use Rattle.language_model.specs.Building.{Fault}
use Rattle.dsl_faults.specs.Found.{fault_of, first_of}
use Rattle.dsl_faults.specs.declared.found.Found.{Found}
use Rattle.dsl_faults.proofs.found.first_found.Given as goal

abbrev pub invariant-loop-x : goal.invariant-loop-x
invariant-loop-x g l = (each : g.row.T.Denot → List Fault) → ((x : g.row.T.Denot) (o : Option Found) → FnReturnsAt g.F.Fn l.find x (Ok o) → option_map fault_of o ≡ first_of (each x)) → flat_map each (take l.x-index l.xs) ≡ []
