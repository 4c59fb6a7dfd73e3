use Rattle.std.proofs.Common.{arith}
use Rattle.item_rows.proofs.Terminals.{terminal_span}
use Rattle.item_rows.proofs.dotted.find_scanned.Goals as goal

pub returns : goal.returns
returns c = terminal_span c.args.flat.now c.terminal_count-count.result (omega arith) c.terminal_count-count.ensures.exact c.args.rules.now c.below-end.result c.below-end.ensures.below c.below-end.ensures.above
