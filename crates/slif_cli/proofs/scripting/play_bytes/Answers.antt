use Rattle.std.proofs.Common.{Err, ap, sym, subst, ◌∙◌, arith, length, chars}
use Rattle.std.specs.Prelude.{encode_utf8_all}
use Rattle.std.proofs.lemmas.Str.{length-le-encodes, encodes-chars}
use Rattle.run_model.specs.Outcome.{IsScriptOutcome}
use Rattle.run_model.specs.Outside.{stream}
use Rattle.text_reading.specs.Parts.{IsBrokenText}
use Rattle.tellings.specs.Refusals.{stop_for}
use Rattle.tellings.specs.Stops.{WriteStops}
use Rattle.tellings.proofs.Refusing.{input_stops_for}
use Rattle.tellings.proofs.Stopping.{passed_on}
use Rattle.slif_cli.proofs.ScriptLemmas.{refused_broken, all_answered, broken_off}
use Rattle.slif_cli.proofs.scripting.play_bytes.Goals as goal

pub returns-in_err-chars-clause-stops : goal.returns-in_err-chars-clause-stops
returns-in_err-chars-clause-stops g c =
    let bytes = c.args.bytes.items in
    let before = stream g.O.Sink.contents g.O.Sink.fault_count c.args.out.now in
    let refusal = c.in_err-chars.field-0.0 in
    passed_on (WriteStops (IsScriptOutcome bytes) before before) c.from_residual.result (stop_for refusal) c.from_residual.ensures.1
    (input_stops_for (IsBrokenText bytes) (IsScriptOutcome bytes) (refused_broken bytes c.requires) before refusal c.in_err-chars.ensures.refused)

pub play_script-requires : goal.play_script-requires
play_script-requires g c =
    omega (arith, ap length c.in_ok-chars.ensures.ok, length-le-encodes (chars c.args.bytes.items), ap length (encodes-chars c.args.bytes.items c.in_ok-chars.ensures.utf8), c.requires)

pub returns-in-Ok-clause-done : goal.returns-in-Ok-clause-done
returns-in-Ok-clause-done g c =
    let bytes = c.args.bytes.items in
    let utf8 = c.in_ok-chars.ensures.utf8 in
    let same = ap encode_utf8_all c.in_ok-chars.ensures.ok ∙ encodes-chars bytes utf8 in
    all_answered bytes c.requires utf8 _ same _ _ c.in-Ok.ensures.played

pub returns-clause-stops : goal.returns-clause-stops
returns-clause-stops g c =
    let bytes = c.args.bytes.items in
    let utf8 = c.in_ok-chars.ensures.utf8 in
    let same = ap encode_utf8_all c.in_ok-chars.ensures.ok ∙ encodes-chars bytes utf8 in
    let before = stream g.O.Sink.contents g.O.Sink.fault_count c.args.out.now in
    let after = stream g.O.Sink.contents g.O.Sink.fault_count c.play_script.new.out in
    let refusal = c.in-Err.refusal in
    subst (WriteStops (IsScriptOutcome bytes) before after) (sym c.stop_of.ensures)
    (broken_off bytes c.requires utf8 _ same before after refusal (λ e. c.in-Err.ensures.fault (ap Err e)) c.in-Err.ensures.stops)
