use Rattle.std.proofs.Common.{◌≡◌, map, take}
use Rattle.std.specs.Prelude.{flat_map}
use Rattle.dsl_statement.specs.Statements.{statement_of}
use Rattle.dsl_faults.specs.Uses.{used_of, uses_of}
use Rattle.dsl_faults.proofs.uses.uses_of.Given as goal

abbrev pub invariant-loop-s : goal.invariant-loop-s
invariant-loop-s l = map used_of l.uses.items ≡ flat_map (λ s. uses_of (statement_of s)) (take l.s-index l.statements)
