use Rattle.std.proofs.Common.{[], ◌∷◌, ◌++◌, arith, sym, ◌∙◌, ap, ℕ, List, cond, take}
use Rattle.std.specs.Prelude.{filter, not}
use Rattle.std.proofs.lemmas.List.{take_all}
use Rattle.language_model.specs.Building.{is_one_of}
use Rattle.dsl_build.proofs.Differing.{unseen, unseen_kept}
use Rattle.dsl_build.proofs.PlacedLemmas.{filter_more}
use Rattle.dsl_build.proofs.placed.without.Goals as goal

pub loop-place-preserved : goal.loop-place-preserved
loop-place-preserved c =
    let p = λ (t : List ℕ). not (is_one_of c.args.others.now t) in
    c.in_ok-add_unless.ensures ∙ ap (λ ns. ns ++ cond (p c.text.result.now) (c.text.result.now ∷ []) []) c.loop-place.invariant ∙ sym (filter_more p c.args.texts.now c.loop-place.place c.text.result.now c.text.ensures)

pub add_unless-requires : goal.add_unless-requires
add_unless-requires c =
    let p = λ (t : List ℕ). not (is_one_of c.args.others.now t) in
    let texts = c.args.texts.now in
    let t = c.text.result.now in
    ap (λ ns. is_one_of ns t) c.loop-place.invariant ∙ unseen_kept p (take c.loop-place.place texts) t (unseen [] texts c.loop-place.place t c.requires c.text.ensures)

pub returns : goal.returns
returns c = c.loop-place.invariant ∙ ap (filter (λ (t : List ℕ). not (is_one_of c.args.others.now t))) (take_all c.loop-place.place c.args.texts.now (omega arith))
