use Rattle.std.proofs.Common.{arith}
use Rattle.slot_analysis.proofs.Known.{child_numbered}
use Rattle.slot_analysis.proofs.clauses.child_number.Goals as goal

pub bounds-bases-symbol : goal.bounds-bases-symbol
bounds-bases-symbol c =
    let n = child_numbered c.args.w.now c.args.bases.now c.args.i c.args.k c.known.ensures c.requires.numbering c.requires.rule c.requires.part in
    omega (arith, n.0, c.child_at-symbol.ensures.symbol, c.requires.numbering.sized)

pub bounds-bases-symbol-2 : goal.bounds-bases-symbol-2
bounds-bases-symbol-2 c =
    let n = child_numbered c.args.w.now c.args.bases.now c.args.i c.args.k c.known.ensures c.requires.numbering c.requires.rule c.requires.part in
    omega (arith, n.0, c.child_at-symbol.ensures.symbol, c.requires.numbering.sized)
