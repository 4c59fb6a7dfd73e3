use Rattle.std.proofs.Common.{◌∙◌, ap, map}
use Rattle.std.proofs.lemmas.List.{take_all}
use Rattle.grammar_check.specs.Told.{unpacked_pair}
use Rattle.grammar_check.proofs.cyclic.unpacked.Goals as goal

pub returns : goal.returns
returns c = c.loop-slot.invariant ∙ ap (map (unpacked_pair c.args.rows.now)) (take_all c.loop-slot.slot-index c.args.cycle.now c.loop-slot-test.false)
