use Rattle.std.proofs.Common.{◌<◌, length, arith, refl, get_or, ◌∙◌}
use Rattle.grammar_core.specs.Steps.{step_of}
use Rattle.valuator.specs.Play.{CanTell}
use Rattle.valuator.proofs.Every.{told_more, rest_more, told_whole, at_place, written_back}
use Rattle.valuator.proofs.playing.tell_all.Goals as goal

pub tell-requires-clause-step : goal.tell-requires-clause-step
tell-requires-clause-step g c =
    let inside : c.loop-teller.teller-index < length c.loop-teller.teller-items = omega (arith, c.loop-teller-test.true, c.loop-teller.auto.teller-items) in
    at_place _ (λ s. s) (λ s. CanTell c.args.p.now.w.now (length c.args.p.now.spans.now) (length s.1) (step_of c.args.step.now)) c.args.tellers.now.items c.loop-teller.teller-items c.loop-teller.teller-index
    (get_or c.loop-teller.teller-items c.loop-teller.teller-index c.teller-item.result) c.teller-item.result c.requires.step inside refl c.loop-teller.invariant.rest

pub loop-teller-preserved : goal.loop-teller-preserved
loop-teller-preserved g c =
    let inside : c.loop-teller.teller-index < length c.loop-teller.teller-items = omega (arith, c.loop-teller-test.true, c.loop-teller.auto.teller-items) in
    record {
      told = told_more _ _ c.args.tellers.now.items c.loop-teller.teller-items c.loop-teller.teller-index (get_or c.loop-teller.teller-items c.loop-teller.teller-index c.teller-item.result) c.teller-item.result c.tell.new.teller
          inside refl c.loop-teller.invariant.rest c.loop-teller.invariant.told (λ k. (c.in_ok-tell.ensures.kind k, c.in_ok-tell.ensures.ok k));
      rest = rest_more (λ t. t) (λ s. s) c.args.tellers.now.items c.loop-teller.teller-items c.loop-teller.teller-index c.tell.new.teller c.loop-teller.invariant.rest;
    }

pub returns : goal.returns
returns g c = record {
  ok =
      rw (written_back c.args.tellers.now.items c.loop-teller.teller-items c.args.tellers.now.len (c.loop-teller.auto.teller-items ∙ c.deref_mut-teller-items.ensures.len))
      (told_whole _ _ c.args.tellers.now.items c.loop-teller.teller-items c.loop-teller.teller-index (omega (arith, c.loop-teller-test.false, c.loop-teller.auto.teller-items)) c.loop-teller.invariant.rest c.loop-teller.invariant.told);
}
