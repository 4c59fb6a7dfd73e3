use Rattle.std.proofs.Common.{◌≡◌, List, Option, Ok, drop}
use Rattle.std.specs.Prelude.{option_map}
use Rattle.language_model.specs.Building.{Fault}
use Rattle.dsl_faults.specs.Found.{FindsAfter, along, fault_of, first_of}
use Rattle.dsl_faults.specs.declared.found.Found.{Found}
use Rattle.dsl_faults.proofs.found.first_after.Given as goal

abbrev pub invariant-loop-x : goal.invariant-loop-x
invariant-loop-x g l = (each : g.row.S.Denot → g.row.T.Denot → List Fault) (after : g.row.S.Denot → g.row.T.Denot → g.row.S.Denot) →
    ((s : g.row.S.Denot) (x : g.row.T.Denot) (o : Option Found) (t : g.row.S.Denot) → FindsAfter g.F.Fn l.find s x (Ok o) t → (option_map fault_of o ≡ first_of (each s x)) × (t ≡ after s x)) →
    along each after l.fn.first l.xs ≡ along each after l.state (drop l.x-index l.xs)
