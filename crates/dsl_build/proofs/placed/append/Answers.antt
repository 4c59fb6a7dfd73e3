use Rattle.std.proofs.Common.{[], ◌∷◌, ◌++◌, take, sym, ◌∙◌, ap, append_assoc}
use Rattle.language_model.specs.Building.{is_one_of}
use Rattle.dsl_build.proofs.Differing.{unseen_behind}
use Rattle.dsl_faults.proofs.Lists.{take_get}
use Rattle.dsl_build.proofs.placed.append.Goals as goal

pub loop-place-preserved : goal.loop-place-preserved
loop-place-preserved c =
    c.in_ok-add_new.ensures.ok ∙ ap (λ ns. ns ++ c.text.result.now ∷ []) c.loop-place.invariant ∙ append_assoc c.args.names.now (take c.loop-place.place c.args.more.now) (c.text.result.now ∷ [])
    ∙ ap (λ ns. c.args.names.now ++ ns) (sym (take_get c.args.more.now c.loop-place.place c.text.result.now c.text.ensures))

pub add_new-requires : goal.add_new-requires
add_new-requires c =
    let t = c.text.result.now in
    ap (λ ns. is_one_of ns t) c.loop-place.invariant ∙ unseen_behind [] c.args.names.now c.args.more.now c.loop-place.place t c.requires c.text.ensures
