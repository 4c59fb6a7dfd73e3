use Rattle.std.proofs.Common.{◌≡◌, ◌∙◌, List, [], ◌∷◌, ◌++◌, ap, sym, subst}
use Rattle.std.specs.Prelude.{option_to_list}
use Rattle.flat_steps.specs.declared.writing.CountRow.{CountRow}
use Rattle.flat_steps.specs.Writing.{flat_step, AreOnTop, IsEffect, AreDone, counts_behind}
use Rattle.flat_steps.proofs.Written.{done_more, on_top}
use Rattle.flat_steps.proofs.writing.write_step.Goals as goal

pub effect_of-effect-requires-clause-on_top : goal.effect_of-effect-requires-clause-on_top
effect_of-effect-requires-clause-on_top c =
    let (done, h) = c.requires.done in
    let rows : c.args.counts.now.items ≡ c.deref.result.now = sym (c.deref.ensures.value ∙ c.make_room.ensures.items) in
    (counts_behind c.args.flat.now [] done, subst (λ r. AreOnTop r (counts_behind c.args.flat.now [] done)) rows (on_top c.args.flat.now c.args.counts.now.items done h.counted))

pub returns-clause-ok : goal.returns-clause-ok
returns-clause-ok c = λ done h.
    let rows : List CountRow = c.args.counts.now.items in
    let same : c.deref.result.now ≡ rows = c.deref.ensures.value ∙ c.make_room.ensures.items in
    let counts = counts_behind c.args.flat.now [] done in
    let effect = c.effect_of-effect.result in
    let is = subst (λ r. IsEffect c.args.written.now c.args.flat.now r counts (flat_step c.args.step) effect) same
    (c.effect_of-effect.ensures counts (on_top c.args.flat.now c.deref.result.now done (subst (λ r. AreDone c.args.written.now c.args.flat.now r c.args.steps.now.items done) (sym same) h).counted).counted) in
    subst (λ r. AreDone c.args.written.now c.args.flat.now r c.put_effect.new.steps.items (done ++ flat_step c.args.step ∷ [])) (sym (c.put_effect.ensures.counts ∙ ap (λ (r : List CountRow). r ++ effect.row ∷ []) c.make_room.ensures.items))
    (subst (λ s. AreDone c.args.written.now c.args.flat.now (rows ++ effect.row ∷ []) s (done ++ flat_step c.args.step ∷ [])) (sym (c.put_effect.ensures.steps ∙ ap (λ (s : List _). s ++ option_to_list effect.step) c.make_room-2.ensures.items))
    (done_more c.args.written.now c.args.flat.now rows c.args.steps.now.items done (flat_step c.args.step) effect h is))
