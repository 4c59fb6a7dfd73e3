use Rattle.std.proofs.Common.{ap, List, length, arith}
use Rattle.jagged.proofs.Cutting.{cut_length}
use Rattle.jagged.proofs.array.Jagged.len.Goals as goal

pub returns : goal.returns
returns g c =
    let l = cut_length 0 c.self.inside.ends.items c.self.inside.items.items in
    let v = ap (λ (z : List (List _)). length z) c.self.view_is in
    let s = c.len.ensures in
    omega arith
