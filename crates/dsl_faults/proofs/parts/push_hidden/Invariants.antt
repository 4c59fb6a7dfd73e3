use Rattle.std.proofs.Common.{◌≡◌, ◌++◌, map, take, Bor}
use Rattle.language_model.specs.Tokens.{Spelled}
use Rattle.dsl_faults.proofs.parts.push_hidden.Given as goal

abbrev pub invariant-loop-part : goal.invariant-loop-part
invariant-loop-part l = map (λ (t : Bor Spelled). t.now) l.parts.items ≡ map (λ (t : Bor Spelled). t.now) l.fn.parts.items ++ take l.part-index l.hidden
