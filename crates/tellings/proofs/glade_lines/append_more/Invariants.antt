use Rattle.std.proofs.Common.{◌≡◌, ◌++◌, take, codes, decimal}
use Rattle.std.specs.List.{flat_map}
use Rattle.tellings.proofs.glade_lines.append_more.Given as goal

abbrev pub invariant-loop-place : goal.invariant-loop-place
invariant-loop-place l = l.line.items ≡ l.fn.line.items ++ flat_map (λ p. codes "," ++ decimal p) (take l.place-index l.places)
