use Rattle.std.proofs.Common.{◌≡◌, ◌||◌, ℕ, List, take, bytes_eq}
use Rattle.std.specs.List.{list_any}
use Rattle.lint_hints.specs.Found.{has}
use Rattle.lint_hints.proofs.uses.Names.put_all.Given as goal

abbrev pub invariant-loop-name : goal.invariant-loop-name
invariant-loop-name l = (q : List ℕ) → has l.self q ≡ (has l.fn.self q || list_any (λ n. bytes_eq q n.now) (take l.name-index l.names))
