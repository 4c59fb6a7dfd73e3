use Rattle.std.proofs.Common.{ℕ, List, ap, subst, arith, length, chars, refl}
use Rattle.std.proofs.lemmas.Str.{length-le-encodes, encodes-chars}
use Rattle.std.proofs.lemmas.Result.{on_ok_weaker, MatchResult-weaker}
use Rattle.run_model.specs.Inputs.{IsInputText, input_limit}
use Rattle.run_model.specs.Outcome.{IsInputOutcome}
use Rattle.run_model.specs.Outcome.IsInputOutcome.{InputRefused}
use Rattle.run_model.specs.Outside.{stream}
use Rattle.text_reading.specs.Parts.{IsBrokenText, IsStopText}
use Rattle.text_reading.specs.Refusals.{TellsInput}
use Rattle.tellings.specs.Refusals.{stop_for}
use Rattle.tellings.specs.Stops.{WriteStops}
use Rattle.tellings.specs.Telling.{TellsReading, GoesOnWithin}
use Rattle.command_line.specs.Jobs.{telling_of}
use Rattle.slif_cli.proofs.InputLemmas.{refused_broken, refused_stop, within_all}
use Rattle.tellings.proofs.Refusing.{input_stops_for}
use Rattle.tellings.proofs.Stopping.{does_weaker, stops_weaker, passed_on}
use Rattle.slif_cli.proofs.TaskLemmas.{input_told}
use Rattle.slif_cli.proofs.Within.{bytes_within}
use Rattle.slif_cli.proofs.telling.tell_bytes.Goals as goal

pub returns-in_err-chars-clause-stops : goal.returns-in_err-chars-clause-stops
returns-in_err-chars-clause-stops g c =
    let b = c.args.prepared.now in
    let bytes = c.args.bytes.items in
    let what = telling_of c.args.what in
    let given = c.args.lexemes.now in
    let before = stream g.O.Sink.contents g.O.Sink.fault_count c.args.out.now in
    let refusal = c.in_err-chars.field-0.0 in
    passed_on (WriteStops (IsInputOutcome what b given bytes) before before) c.from_residual.result (stop_for refusal) c.from_residual.ensures.1
    (input_stops_for (IsBrokenText bytes) (IsInputOutcome what b given bytes)
    (λ text place expected broken. InputRefused text (refused_broken b given bytes c.requires.few text place expected broken) refl) before refusal c.in_err-chars.ensures.refused)

pub returns-in_err-reading-clause-stops : goal.returns-in_err-reading-clause-stops
returns-in_err-reading-clause-stops g c =
    let b = c.args.prepared.now in
    let bytes = c.args.bytes.items in
    let what = telling_of c.args.what in
    let given = c.args.lexemes.now in
    let before = stream g.O.Sink.contents g.O.Sink.fault_count c.args.out.now in
    let refusal = c.in_err-reading.field-0.0 in
    passed_on (WriteStops (IsInputOutcome what b given bytes) before before) c.from_residual-in_err-reading.result (stop_for refusal) c.from_residual-in_err-reading.ensures.1
    (input_stops_for (IsStopText b given (chars bytes)) (IsInputOutcome what b given bytes)
    (λ text place expected stop. InputRefused text (refused_stop b given bytes c.requires.few c.in_ok-chars.ensures.utf8 text place expected stop) refl) before refusal
    (subst (λ (cs : List ℕ). TellsInput (IsStopText b given cs) refusal) c.in_ok-chars.ensures.ok c.in_err-reading.ensures.refused))

pub read_with-requires-clause-few : goal.read_with-requires-clause-few
read_with-requires-clause-few g c =
    omega (arith, ap length c.in_ok-chars.ensures.ok, length-le-encodes (chars c.args.bytes.items), ap length (encodes-chars c.args.bytes.items c.in_ok-chars.ensures.utf8), c.requires.few)

pub tell_reading-told-requires-clause-few : goal.tell_reading-told-requires-clause-few
tell_reading-told-requires-clause-few g c =
    omega (arith, ap length c.in_ok-chars.ensures.ok, length-le-encodes (chars c.args.bytes.items), ap length (encodes-chars c.args.bytes.items c.in_ok-chars.ensures.utf8), c.requires.few, within_all c.args.lexemes.now)

pub returns-clause-done : goal.returns-clause-done
returns-clause-done g c =
    let b = c.args.prepared.now in
    let bytes = c.args.bytes.items in
    let what = telling_of c.args.what in
    let given = c.args.lexemes.now in
    let text : IsInputText (input_limit given) bytes = record { within = c.requires.few; utf8 = c.in_ok-chars.ensures.utf8 } in
    on_ok_weaker c.tell_reading-told.result
    (does_weaker (TellsReading what b given c.in_ok-chars.chars) (IsInputOutcome what b given bytes)
    (λ o told. input_told what b given bytes text o (subst (λ (cs : List ℕ). TellsReading what b given cs o) c.in_ok-chars.ensures.ok told)) _ _)
    (c.tell_reading-told.ensures.done given c.in_ok-reading.ensures.read)

pub returns-clause-stops : goal.returns-clause-stops
returns-clause-stops g c =
    let b = c.args.prepared.now in
    let bytes = c.args.bytes.items in
    let what = telling_of c.args.what in
    let given = c.args.lexemes.now in
    let text : IsInputText (input_limit given) bytes = record { within = c.requires.few; utf8 = c.in_ok-chars.ensures.utf8 } in
    MatchResult-weaker c.tell_reading-told.result (c.tell_reading-told.ensures.stops given c.in_ok-reading.ensures.read) (λ _ x. x)
    (stops_weaker (TellsReading what b given c.in_ok-chars.chars) (IsInputOutcome what b given bytes)
    (λ o told. input_told what b given bytes text o (subst (λ (cs : List ℕ). TellsReading what b given cs o) c.in_ok-chars.ensures.ok told))
    (λ name. ⊥) (λ name. ⊥) ⊥ ⊥ (λ name x. x) (λ x. x)
    (stream g.O.Sink.contents g.O.Sink.fault_count c.args.out.now) (stream g.O.Sink.contents g.O.Sink.fault_count c.tell_reading-told.new.out))

pub returns-clause-counted : goal.returns-clause-counted
returns-clause-counted g c =
    let b = c.args.prepared.now in
    let what = telling_of c.args.what in
    let given = c.args.lexemes.now in
    let text : IsInputText (input_limit given) c.args.bytes.items = record { within = c.requires.few; utf8 = c.in_ok-chars.ensures.utf8 } in
    on_ok_weaker c.tell_reading-told.result
    (λ goes. bytes_within what b given c.args.bytes.items text c.in_ok-reading.reading.recce c.args.steps.now c.read_with.new.steps c.tell_reading-told.new.steps c.in_ok-reading.ensures.counted
    (subst (λ (cs : List ℕ). GoesOnWithin what b given cs c.in_ok-reading.reading.recce c.read_with.new.steps c.tell_reading-told.new.steps) c.in_ok-chars.ensures.ok goes))
    (c.tell_reading-told.ensures.counted given c.in_ok-reading.ensures.read)
