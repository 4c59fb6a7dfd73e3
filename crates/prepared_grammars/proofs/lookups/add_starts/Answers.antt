use Rattle.std.proofs.Common.{arith}
use Rattle.prepared_grammars.proofs.Finding.{adds_none, adds_more, adds_all}
use Rattle.prepared_grammars.proofs.lookups.add_starts.Goals as goal

pub loop-symbol-init : goal.loop-symbol-init
loop-symbol-init c = adds_none c.args.starts.now c.args.found.now.items

pub loop-symbol-preserved : goal.loop-symbol-preserved
loop-symbol-preserved c =
    adds_more c.args.starts.now c.args.symbols.now c.loop-symbol.symbol-index c.symbol-item.result c.args.found.now.items c.loop-symbol.found.items c.add_start.new.found.items (omega arith) c.symbol-item.is c.loop-symbol.invariant c.in_ok-add_start.ensures

pub returns : goal.returns
returns c = adds_all c.args.starts.now c.args.symbols.now c.loop-symbol.symbol-index c.args.found.now.items c.loop-symbol.found.items c.loop-symbol-test.false c.loop-symbol.invariant
