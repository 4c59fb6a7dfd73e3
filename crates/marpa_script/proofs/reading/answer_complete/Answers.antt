use Rattle.std.proofs.Common.{◌≡◌, ◌<◌, ◌∙◌, ◌++◌, sym, ap, arith}
use Rattle.std.specs.Prelude.{codes, decimal}
use Rattle.earley_sets.specs.Recognizer.{earleme_of}
use Rattle.marpa_script.proofs.Replying.{on_ok}
use Rattle.marpa_script.proofs.Hearing.{stays_last, next_place, goes_on}
use Rattle.marpa_script.proofs.reading.answer_complete.Goals as goal

pub returns-then-place-eq-LAST_PLACE-clause-replies : goal.returns-then-place-eq-LAST_PLACE-clause-replies
returns-then-place-eq-LAST_PLACE-clause-replies g c =
    let last : earleme_of c.args.recce.now ≡ 1000000 = sym c.place-place.ensures.place ∙ c.if-place-eq-LAST_PLACE.true in
    on_ok c.put.result c.put.ensures (λ is g. stays_last g c.args.recce.now c.put.new.line.items last is)

pub returns-clause-replies : goal.returns-clause-replies
returns-clause-replies g c =
    let is = c.place-place.ensures.place in
    let other = c.if-place-eq-LAST_PLACE.false in
    let le = c.requires in
    let lt : earleme_of c.args.recce.now < 1000000 = omega (arith, is, other, le) in
    let (set, more, listed) = c.in_ok-complete_earleme.ensures.ok in
    on_ok c.put_number.result c.put_number.ensures
    (λ said g. goes_on c.args.recce.now c.complete_earleme.new.self set c.place-place.ensures.is more g c.put_number.new.line.items c.complete_earleme.ensures.same.2 lt
    (said ∙ ap (λ k. codes "place " ++ decimal k) c.place.ensures.place))

pub returns-clause-within : goal.returns-clause-within
returns-clause-within g c =
    let is = c.place-place.ensures.place in
    let other = c.if-place-eq-LAST_PLACE.false in
    let le = c.requires in
    let (set, more, listed) = c.in_ok-complete_earleme.ensures.ok in
    let next = next_place c.args.recce.now c.complete_earleme.new.self set c.place-place.ensures.is more in
    omega (arith, is, other, le, next)
