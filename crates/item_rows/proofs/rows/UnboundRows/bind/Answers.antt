use Rattle.std.proofs.Common.{ap}
use Rattle.item_rows.specs.Dotted.{Dotted}
use Rattle.item_rows.specs.Held.{rows_from, lists_from, kinds_of}
use Rattle.item_rows.proofs.rows.UnboundRows.bind.Goals as goal

pub returns : goal.returns
returns c =
    let r = c.args.self in
    ap (λ (d : Dotted). record { flat = d.flat; sets = rows_from d.rules r.lists 0 r.kernels; shared = lists_from d.rules r.lists; kinds = kinds_of r.kernels }) c.bind.ensures
