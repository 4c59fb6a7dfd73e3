use Rattle.std.proofs.Common.{◌≡◌, take, []}
use Rattle.dsl_build.proofs.writing.named.Given as goal

abbrev pub invariant-loop-place : goal.invariant-loop-place
invariant-loop-place l = l.w ≡ record { names = take l.place l.names; rules = []; starts = [] }
