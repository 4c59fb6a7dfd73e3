use Rattle.std.proofs.Common.{List, map, sym, subst}
use Rattle.grammar_core.specs.Steps.{step_of}
use Rattle.grammar_core.specs.declared.steps.Span.{Span}
use Rattle.slif_parser.specs.Views.{Read, CanBePlayed}
use Rattle.slif_parser.proofs.first.First.of.Goals as goal

pub invariant_of-result : goal.invariant_of-result
invariant_of-result c =
    let steps = map step_of c.args.steps.items in
    let can = subst (λ (r : Read). CanBePlayed r.grammar r.characters r.spans steps) (sym c.reading.view_is) c.requires in
    subst (λ (l : List Span). CanBePlayed c.reading.inside.prepared.now c.reading.inside.chars l steps) (sym c.as_slice-2.ensures.value) can
