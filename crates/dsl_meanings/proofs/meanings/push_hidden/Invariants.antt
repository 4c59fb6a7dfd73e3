use Rattle.std.proofs.Common.{◌≡◌, take, map, ◌++◌, false}
use Rattle.dsl_meanings.proofs.meanings.push_hidden.Given as goal

abbrev pub invariant-loop : goal.invariant-loop
invariant-loop l = l.shown.items ≡ l.fn.shown.items ++ map (λ t. false) (take l.index l.parts)
