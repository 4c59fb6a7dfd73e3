use Rattle.std.proofs.Common.{◌≡◌, ◌++◌, take}
use Rattle.earley_sets.specs.Recognizer.{set_at}
use Rattle.progress.proofs.lines.items_of.Given as goal

abbrev pub invariant-loop-k : goal.invariant-loop-k
invariant-loop-k g l = l.items.items ≡ l.initial.items.items ++ take l.k (set_at l.recce l.j)
