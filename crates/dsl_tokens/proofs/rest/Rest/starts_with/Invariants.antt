use Rattle.std.proofs.Common.{◌≡◌, drop, nat_eq}
use Rattle.std.specs.List.{starts_with}
use Rattle.dsl_tokens.proofs.rest.Rest.starts_with.Given as goal

abbrev pub invariant-loop-i : goal.invariant-loop-i
invariant-loop-i l = starts_with nat_eq (drop l.i l.self) (drop l.i l.prefix) ≡ starts_with nat_eq l.self l.prefix
