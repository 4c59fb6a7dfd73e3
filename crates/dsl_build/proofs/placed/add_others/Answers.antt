use Rattle.std.proofs.Common.{◌∙◌}
use Rattle.dsl_build.proofs.PlacedLemmas.{others_on}
use Rattle.dsl_build.proofs.placed.add_others.Goals as goal

pub loop-place-preserved : goal.loop-place-preserved
loop-place-preserved c = c.in_ok-add.ensures.ok ∙ others_on c.args.names.now c.args.texts.now c.loop-place.names c.loop-place.place c.text.result.now c.requires c.text.ensures c.loop-place.invariant
