use Rattle.std.proofs.Common.{List, [], map, sym, ◌∙◌, ap, subst}
use Rattle.std.specs.Prelude.{Contains}
use Rattle.grammar_core.specs.Steps.{step_of}
use Rattle.grammar_model.specs.Steps.{Step}
use Rattle.recognizer_model.specs.Flat.{FlatGrammar}
use Rattle.recognizer_model.specs.FlatForm.{IsFlatOf}
use Rattle.forest_laws.specs.Written.{steps_written}
use Rattle.flat_steps.specs.declared.writing.FlatStep.{FlatStep}
use Rattle.flat_steps.specs.Writing.{flat_step, IsStepOf}
use Rattle.first_walk.specs.Going.{backwards}
use Rattle.first_walk.proofs.Backwards.{map_reverse, turned}
use Rattle.first_walk.proofs.Goings.{first_told}
use Rattle.first_walk.proofs.walk.told.Goals as goal

pub write_steps-requires-clause-flat_of : goal.write_steps-requires-clause-flat_of
write_steps-requires-clause-flat_of c = subst (λ (g : FlatGrammar). IsFlatOf g c.args.w.now) (sym c.flat.ensures) c.requires.read.flat_of

pub write_steps-requires-clause-steps : goal.write_steps-requires-clause-steps
write_steps-requires-clause-steps c step h =
    subst (λ (g : FlatGrammar). IsStepOf g (flat_step step)) (sym c.flat.ensures)
    (c.requires.walking.steps (flat_step step) (turned c.args.walk.steps.items step (subst (λ (l : List FlatStep). Contains l step) (c.deref.ensures.value ∙ c.reverse.ensures.items) h)))

pub returns : goal.returns
returns c =
    first_told c.args.w.now c.args.ranking c.args.recce.now c.requires.read c.requires.tree (backwards c.args.walk.steps.items) c.args.walk.alone c.requires.walking c.flat.result.now c.flat.ensures (map step_of c.in_ok-steps.steps.items)
    (c.in_ok-steps.ensures ∙ ap (λ (l : List FlatStep). steps_written c.args.w.now c.flat.result.now [] (map flat_step l)) (c.deref.ensures.value ∙ c.reverse.ensures.items)
    ∙ ap (λ (l : List Step). steps_written c.args.w.now c.flat.result.now [] l) (map_reverse flat_step c.args.walk.steps.items))
