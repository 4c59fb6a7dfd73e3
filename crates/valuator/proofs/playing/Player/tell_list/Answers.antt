use Rattle.std.proofs.Common.{length, map, subst, sym}
use Rattle.grammar_core.specs.Steps.{step_of}
use Rattle.valuator.specs.Play.{AreSteps}
use Rattle.valuator.specs.Player.{Score}
use Rattle.valuator.proofs.Derived.{each_can_tell}
use Rattle.valuator.proofs.playing.Player.tell_list.Goals as goal

pub tell_steps-requires-clause-steps : goal.tell_steps-requires-clause-steps
tell_steps-requires-clause-steps g c =
    each_can_tell _ c.self.invariant.written _ _ _
    (subst (λ (s : Score). AreSteps s.grammar (length s.spans) (map step_of c.args.list.now)) (sym c.self.view_is) c.requires)
