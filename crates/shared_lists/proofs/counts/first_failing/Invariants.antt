use Rattle.std.proofs.Common.{◌≡◌, Bool, true}
use Rattle.std.specs.Fn.{ComputesKey}
use Rattle.std.specs.List.{AllWithin}
use Rattle.shared_lists.proofs.counts.first_failing.Given as goal

abbrev pub invariant-loop-place : goal.invariant-loop-place
invariant-loop-place g l = (p : g.row.T.Denot → Bool) → ComputesKey g.P.Fn p l.test → AllWithin (λ x. p x ≡ true) l.list l.start l.place
