use Rattle.std.proofs.Common.{◌≡◌, length, arith}
use Rattle.plain_lister.proofs.Arena.{adds_push}
use Rattle.plain_lister.proofs.cells.add_cell.Goals as goal

pub returns : goal.returns
returns c =
    let place : c.len-place.result ≡ length c.args.cells.now.items = omega (arith, c.args.cells.now.ok, c.len-place.ensures) in
    rw (c.in_ok-push.ensures.items, c.in_ok-push-2.ensures.items, place) (adds_push c.args.cells.now.items c.args.cell c.args.out.now.items c.requires)
