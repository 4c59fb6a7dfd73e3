use Rattle.std.proofs.Common.{refl}
use Rattle.scanning_calls.proofs.Hearing.{expected_told}
use Rattle.scanning_calls.proofs.reading.list_expected.Goals as goal

pub returns-in-Ok : goal.returns-in-Ok
returns-in-Ok c =
    (refl, expected_told c.expected_are_acceptable.ensures c.args.w.now c.args.recce.now c.requires c.place-place.ensures.is c.known.ensures c.in-Ok.symbols.items c.in-Ok.ensures.order c.in-Ok.ensures.exact)
