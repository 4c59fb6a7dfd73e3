use Rattle.std.proofs.Common.{Some, None}
use Rattle.grammar_model.specs.Derives.{Held}
use Rattle.recognizer_model.specs.FlatForm.{FlatEdges}
use Rattle.recognizer_model.specs.Items.{InSet}
use Rattle.leo_items.specs.Steps.{StepsAreLeo}
use Rattle.leo_items.proofs.Single.{step_some, step_none}
use Rattle.leo_items.proofs.steps_are_leo.Goals as goal

steps : StepsAreLeo
steps g edges top earleme symbol waiting (Some step) lists is =
    let (item, o, same) = step_some g (InSet g (FlatEdges g (Held edges)) top earleme) symbol waiting lists step is in
    (item, record { inside = o.inside; waits = o.waits; last = o.last; only = o.only }, same)
steps g edges top earleme symbol waiting None lists is =
    λ item leo. step_none g (InSet g (FlatEdges g (Held edges)) top earleme) symbol waiting lists is item (record { inside = leo.inside; waits = leo.waits; last = leo.last; only = leo.only })

pub returns : goal.returns
returns c = steps
