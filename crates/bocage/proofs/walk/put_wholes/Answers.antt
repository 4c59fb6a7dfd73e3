use Rattle.std.proofs.Common.{◌≡◌, ◌∙◌, ◌+◌, ◌++◌, ◌∷◌, List, [], take, get_or, Contains, sym, ap, subst}
use Rattle.std.proofs.lemmas.List.Elements.{Contains-append_left, Contains-append_right, Contains-get_or}
use Rattle.std.proofs.lemmas.List.{take_more, take_all}
use Rattle.recognizer_model.specs.declared.NodeKey.{NodeKey}
use Rattle.forest_parts.specs.declared.parts.Part.{Part}
use Rattle.forest_parts.specs.Parts.{no_part}
use Rattle.bocage.specs.Walk.{whole_keys, AddsWholes, GrowsBy}
use Rattle.bocage.proofs.Growing.{grows_none, grows_then, grows_weaker, wholes_none, wholes_then, keys_both}
use Rattle.std.proofs.lemmas.Result.{IfOk-from_err}
use Rattle.bocage.proofs.walk.put_wholes.Goals as goal

pub loop-part-init : goal.loop-part-init
loop-part-init c = record { numbers = wholes_none c.args.keys.now.keys c.args.wholes.now.items; grows = grows_none (λ (k : NodeKey). Contains [] k) c.args.keys.now.keys }

pub put_whole-requires : goal.put_whole-requires
put_whole-requires c = c.requires _ (Contains-get_or c.args.parts.now c.loop-part.part-index no_part c.loop-part-test.true)

pub loop-part-preserved : goal.loop-part-preserved
loop-part-preserved c =
    let flat = c.args.flat.now in
    let p = get_or c.args.parts.now c.loop-part.part-index no_part in
    let e : take (c.loop-part.part-index + 1) c.args.parts.now ≡ take c.loop-part.part-index c.args.parts.now ++ get_or c.args.parts.now c.loop-part.part-index no_part ∷ [] = take_more c.args.parts.now c.loop-part.part-index no_part c.loop-part-test.true in
    let f = ap (whole_keys c.args.flat.now) e ∙ keys_both c.args.flat.now (take c.loop-part.part-index c.args.parts.now) (get_or c.args.parts.now c.loop-part.part-index no_part ∷ []) in
    record {
      numbers = subst (λ ks. AddsWholes c.put_whole.new.keys.keys ks c.args.wholes.now.items c.put_whole.new.wholes.items) (sym f)
          (wholes_then (λ (k : NodeKey). Contains (whole_keys c.args.flat.now (get_or c.args.parts.now c.loop-part.part-index no_part ∷ [])) k) c.loop-part.keys.keys c.put_whole.new.keys.keys
          (whole_keys c.args.flat.now (take c.loop-part.part-index c.args.parts.now)) (whole_keys c.args.flat.now (get_or c.args.parts.now c.loop-part.part-index no_part ∷ []))
          c.args.wholes.now.items c.loop-part.wholes.items c.put_whole.new.wholes.items c.in_ok-put_whole.ensures.grows c.loop-part.invariant.numbers c.in_ok-put_whole.ensures.numbers);
      grows = grows_then (λ (k : NodeKey). Contains (whole_keys c.args.flat.now (take (c.loop-part.part-index + 1) c.args.parts.now)) k) c.args.keys.now.keys c.loop-part.keys.keys c.put_whole.new.keys.keys
          (grows_weaker (λ (k : NodeKey). Contains (whole_keys c.args.flat.now (take (c.loop-part.part-index + 1) c.args.parts.now)) k) (λ (k : NodeKey). Contains (whole_keys c.args.flat.now (take c.loop-part.part-index c.args.parts.now)) k) c.args.keys.now.keys c.loop-part.keys.keys
          (λ k h. subst (λ (l : List NodeKey). Contains l k) (sym f) (Contains-append_left (whole_keys c.args.flat.now (take c.loop-part.part-index c.args.parts.now)) (whole_keys c.args.flat.now (get_or c.args.parts.now c.loop-part.part-index no_part ∷ [])) k h)) c.loop-part.invariant.grows)
          (grows_weaker (λ (k : NodeKey). Contains (whole_keys c.args.flat.now (take (c.loop-part.part-index + 1) c.args.parts.now)) k) (λ (k : NodeKey). Contains (whole_keys c.args.flat.now (get_or c.args.parts.now c.loop-part.part-index no_part ∷ [])) k) c.loop-part.keys.keys c.put_whole.new.keys.keys
          (λ k h. subst (λ (l : List NodeKey). Contains l k) (sym f) (Contains-append_right (whole_keys c.args.flat.now (take c.loop-part.part-index c.args.parts.now)) (whole_keys c.args.flat.now (get_or c.args.parts.now c.loop-part.part-index no_part ∷ [])) k h)) c.in_ok-put_whole.ensures.grows);
    }

pub returns-clause-grows : goal.returns-clause-grows
returns-clause-grows c =
    subst (λ (l : List Part). GrowsBy (λ (k : NodeKey). Contains (whole_keys c.args.flat.now l) k) c.args.keys.now.keys c.loop-part.keys.keys) (take_all c.loop-part.part-index c.args.parts.now c.loop-part-test.false) c.loop-part.invariant.grows

pub returns-in_err-put_whole-clause-numbers : goal.returns-in_err-put_whole-clause-numbers
returns-in_err-put_whole-clause-numbers c = IfOk-from_err _ _ c.from_residual.ensures.0

pub returns-in_err-put_whole-clause-grows : goal.returns-in_err-put_whole-clause-grows
returns-in_err-put_whole-clause-grows c = IfOk-from_err _ _ c.from_residual.ensures.0
