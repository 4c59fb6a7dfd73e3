use Rattle.std.proofs.Common.{◌≡◌, ◌/◌, take, map}
use Rattle.item_rows.proofs.packed.list_dotted.Given as goal

abbrev pub invariant-loop-n : goal.invariant-loop-n
invariant-loop-n l = l.numbers.items ≡ map (λ n. n / 4294967296) (take l.n-index l.packed)
