use Rattle.std.proofs.Common.{arith}
use Rattle.grammar_core.proofs.Known.{child_known}
use Rattle.slot_analysis.proofs.Transfer.{rule_within, part_within, cause_told}
use Rattle.slot_analysis.proofs.packed.Packed.child_at.Goals as goal

pub place_at-requires-clause-known : goal.place_at-requires-clause-known
place_at-requires-clause-known c =
    let il = rule_within c.self.inside.written.now c.self.inside.levels.now c.known.ensures c.self.invariant c.args.self.now c.self.view_is c.args.i c.requires.rule in
    let kl = part_within c.self.inside.written.now c.self.inside.levels.now c.known.ensures c.self.invariant c.args.self.now c.self.view_is c.args.i c.requires.rule c.args.k c.requires.part in
    let known = child_known c.self.inside.written.now c.args.i c.args.k c.known.ensures il kl in
    let sized = c.self.invariant.has.sized in
    omega (arith, known, sized, c.child_at-symbol.ensures.symbol)

pub returns-clause-level : goal.returns-clause-level
returns-clause-level c = cause_told c.self.inside.written.now c.self.inside.levels.now c.known.ensures c.self.invariant c.args.self.now c.self.view_is c.args.i c.requires.rule c.args.k c.child_at-symbol.result.0 c.child_at-symbol.result.1 c.place_at.result c.requires.part c.child_at-symbol.ensures.symbol c.child_at-symbol.ensures.level c.place_at.ensures
