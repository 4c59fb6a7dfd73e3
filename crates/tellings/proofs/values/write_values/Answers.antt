use Rattle.std.proofs.Common.{List, Global, Vec, ◌∷◌, ap, map, sym, subst, arith}
use Rattle.std.specs.Prelude.{IfSome}
use Rattle.std.proofs.lemmas.Result.{on_ok_weaker}
use Rattle.run_model.specs.Outside.{stream}
use Rattle.words_model.specs.Words.Telling.{Values}
use Rattle.command_line.specs.Jobs.{asked_of}
use Rattle.grammar_core.specs.Steps.{step_of}
use Rattle.grammar_core.specs.declared.steps.TreeStep.{TreeStep}
use Rattle.forest_parts.specs.Given.{items_in}
use Rattle.first_walk.specs.Place.{reading_of}
use Rattle.scanless.specs.declared.reading.Ending.TheVariants.{End}
use Rattle.text_reading.specs.Refusals.{IsNoDerivation}
use Rattle.text_reading.specs.Parts.{HasOnly, ForGiven}
use Rattle.tellings.specs.Stops.{WriteStops}
use Rattle.tellings.specs.Refusals.{stop_for}
use Rattle.tellings.specs.Telling.{TellsReading}
use Rattle.tellings.proofs.Derived.{no_values}
use Rattle.tellings.proofs.Refusing.{input_stops_for}
use Rattle.tellings.proofs.Stopping.{passed_on}
use Rattle.tellings.proofs.Within.{lists_within}
use Rattle.tellings.proofs.values.write_values.Goals as goal

pub returns-in_err-only-clause-stops : goal.returns-in_err-only-clause-stops
returns-in_err-only-clause-stops g c given is_read =
    let b = c.args.prepared.now in
    let cs = c.args.chars.now in
    let asked = asked_of c.args.asked in
    let before = stream g.O.Sink.contents g.O.Sink.fault_count c.args.out.now in
    let refusal = c.in_err-only.field-0.0 in
    passed_on (WriteStops (TellsReading (Values asked) b given cs) before before) c.from_residual.result (stop_for refusal) c.from_residual.ensures.1
    (input_stops_for (IsNoDerivation b given asked.ranking cs) (TellsReading (Values asked) b given cs) (no_values asked b given cs) before refusal (c.in_err-only.ensures.refused given is_read))

pub returns-then-asked-clause-counted : goal.returns-then-asked-clause-counted
returns-then-asked-clause-counted g c given is_read =
    on_ok_weaker c.write_listed.result (λ within. within c.args.steps.now (let e = ap items_in c.new-before.ensures in omega (arith, e))) (c.write_listed.ensures.counted given is_read)

pub write_only-requires-clause-only : goal.write_only-requires-clause-only
write_only-requires-clause-only g c given is_read =
    let b = c.args.prepared.now in
    let asked = c.args.asked in
    let reading = c.args.reading.now in
    let only = subst (λ o. IfSome o (λ (list : Vec TreeStep Global). ForGiven b c.args.chars.now reading.recce reading.spans.items End
    (λ given. HasOnly b given asked.ranking asked.first c.args.chars.now reading.spans.items reading.recce (map step_of list.items)))) c.in-Some.is c.in_ok-only.ensures.only in
    subst (λ (l : List TreeStep). HasOnly b given asked.ranking asked.first c.args.chars.now reading.spans.items reading.recce (map step_of l)) (sym c.deref.ensures.value) (only given is_read)

pub returns-in-Some-clause-counted : goal.returns-in-Some-clause-counted
returns-in-Some-clause-counted g c given is_read =
    let b = c.args.prepared.now in
    let asked = c.args.asked in
    let reading = c.args.reading.now in
    let f = reading_of b.g1 asked.ranking reading.recce in
    let all = subst (λ o. IfSome o (λ (list : Vec TreeStep Global). ForGiven b c.args.chars.now reading.recce reading.spans.items End
    (λ given. HasOnly b given asked.ranking asked.first c.args.chars.now reading.spans.items reading.recce (map step_of list.items)))) c.in-Some.is c.in_ok-only.ensures.only in
    let only = all given is_read in
    on_ok_weaker c.write_only.result
    (λ _. lists_within b (asked_of asked) given c.args.chars.now reading.spans.items f only.has (only.asked.tree ∷ only.asked.others, only.asked.listing) reading.recce reading.spans.items c.place-place.ensures.is is_read _ _ _
    c.only_of.ensures.counted (λ trees l. omega arith))
    (c.write_only.ensures.done given is_read)

pub returns-clause-counted : goal.returns-clause-counted
returns-clause-counted g c given is_read =
    on_ok_weaker c.write_listed-in-None.result (λ within. within c.args.steps.now c.in_ok-only.ensures.told) (c.write_listed-in-None.ensures.counted given is_read)
