use Rattle.std.proofs.Common.{◌∷◌, [], ◌∙◌, ap, length, length-append, arith}
use Rattle.kernels.specs.Slots.{dotted_of}
use Rattle.item_rows.specs.Noted.{ArePlaces}
use Rattle.item_rows.proofs.Ruled.{more_noted}
use Rattle.item_rows.proofs.places.list_places.Goals as goal

pub places_of-requires-clause-order : goal.places_of-requires-clause-order
places_of-requires-clause-order c = c.span.ensures.order

pub loop-symbol-preserved : goal.loop-symbol-preserved
loop-symbol-preserved c =
    let (long, are) = c.loop-symbol.invariant in
    let grown = ap length c.in_ok-push.ensures.items ∙ length-append c.loop-symbol.block.items (c.places_of.result ∷ []) in (
      omega (arith, grown, long),
      more_noted (ArePlaces c.args.dotted.now.flat c.args.dotted.now.rules (dotted_of c.args.slotted.now) c.args.list.now) c.loop-symbol.block.items c.places_of.result c.loop-symbol.symbol c.push.new.self.items are long
          (record { span = c.span.result; is = c.span.ensures; own = c.places_of.ensures.own; others = c.places_of.ensures.others }) c.in_ok-push.ensures.items,
    )

pub returns : goal.returns
returns c = c.loop-symbol.invariant.1
