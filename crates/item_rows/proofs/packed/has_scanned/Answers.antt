use Rattle.std.proofs.Common.{◌≡◌, ℕ, Some}
use Rattle.recognizer_model.specs.Flat.{part_of}
use Rattle.item_rows.specs.Kept.{StandsForTerminal}
use Rattle.item_rows.proofs.Placing.{some_of_kind}
use Rattle.item_rows.proofs.packed.has_scanned.Goals as goal

pub returns : goal.returns
returns c =
    some_of_kind c.args.dotted.now.rules c.args.kernel.origins.now c.args.kernel.slotted.now c.requires.slotted c.requires.row (λ rule dot. (x : ℕ) × (part_of c.args.dotted.now.flat rule dot ≡ Some x) × StandsForTerminal c.args.dotted.now.flat x) c.scanned.result c.scanned.ensures
    c.within_span.result.now c.within_span.ensures.exact c.is_empty.result c.is_empty.ensures
