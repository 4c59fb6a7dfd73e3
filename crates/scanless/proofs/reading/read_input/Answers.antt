use Rattle.std.proofs.Common.{◌+◌, ◌≤◌, arith, [], length, sym, subst, ◌∙◌}
use Rattle.std.proofs.lemmas.Result.{IfOk-weaker}
use Rattle.grammar_model.specs.declared.limits.TheConstants.{LAST_PLACE}
use Rattle.language_model.specs.Building.{Built}
use Rattle.earley_sets.specs.Recognizer.{earleme_of}
use Rattle.earley_sets.proofs.Counting.{counts_first}
use Rattle.scanless.specs.Reading.{HasRead, IsReadingOf}
use Rattle.scanless.proofs.Steps.{over_without}
use Rattle.scanless.proofs.reading.read_input.Goals as goal

pub read_on-requires-clause-reader : goal.read_on-requires-clause-reader
read_on-requires-clause-reader g c = (
  [],
  record {
    pieces = [];
    has_read = subst (λ (b : Built). HasRead b [] c.args.chars.now [] c.in_ok-reader.reader.at c.in_ok-reader.reader.recce c.in_ok-reader.reader.spans) (sym c.in_ok-reader.ensures.grammar) (c.in_ok-reader.ensures.begun [] c.args.chars.now);
  },
)

pub read_on-requires-clause-room : goal.read_on-requires-clause-room
read_on-requires-clause-room g c =
    let place = (c.in_ok-reader.ensures.begun [] c.args.chars.now).holds.place in
    let le : earleme_of c.in_ok-reader.reader.recce + length c.args.chars.now ≤ LAST_PLACE + c.in_ok-reader.reader.at = omega (arith, place, c.requires) in le

pub returns-in-Ok-clause-reading : goal.returns-in-Ok-clause-reading
returns-in-Ok-clause-reading g c =
    let read = subst (λ (b : Built). HasRead b [] c.args.chars.now [] c.in_ok-reader.reader.at c.in_ok-reader.reader.recce c.in_ok-reader.reader.spans) (sym c.in_ok-reader.ensures.grammar) (c.in_ok-reader.ensures.begun [] c.args.chars.now) in
    let rests = (c.in-Ok.ensures.rests [] [] read).0 in
    IfOk-weaker c.finish.result _ (λ r. IsReadingOf c.args.p.now c.args.chars.now r.recce r.spans.items r.ending)
    (λ r is. subst (λ (b : Built). IsReadingOf b c.args.chars.now r.recce r.spans.items r.ending) (c.read_on.ensures.grammar ∙ c.in_ok-reader.ensures.grammar) (is [] c.args.chars.now rests (over_without c.read_on.new.self.grammar rests.pieces c.in-Ok.found)))
    c.finish.ensures.reading

pub returns-in-Ok-clause-counted : goal.returns-in-Ok-clause-counted
returns-in-Ok-clause-counted g c =
    IfOk-weaker c.finish.result _ _ (λ r is. is c.args.steps.now c.read_on.new.steps (c.in-Ok.ensures.counted c.args.steps.now (counts_first c.in_ok-reader.reader.recce c.args.steps.now c.in_ok-reader.ensures.noted))) c.finish.ensures.counted
