use Rattle.std.proofs.Common.{◌∙◌, ◌+◌, ap, map}
use Rattle.std.proofs.lemmas.List.{take_all}
use Rattle.grammar_check.proofs.cycles.put_shifted.Goals as goal

pub returns : goal.returns
returns c = c.loop-h.invariant ∙ ap (map (λ h. c.args.by + h)) (take_all c.loop-h.h-index c.args.row.now c.loop-h-test.false)
