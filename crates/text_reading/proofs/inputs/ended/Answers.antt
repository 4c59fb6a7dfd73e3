use Rattle.std.proofs.Common.{Some, subst, sym, ◌∙◌}
use Rattle.text_reading.specs.Parts.{IsStopText}
use Rattle.text_reading.proofs.InputLemmas.{stops_known, known_in, stop_told}
use Rattle.text_reading.proofs.inputs.ended.Goals as goal

pub stopped_text-requires-clause-found : goal.stopped_text-requires-clause-found
stopped_text-requires-clause-found c =
    let b = c.args.prepared.now in
    let known = stops_known b c.known.ensures.ranges c.requires.read.0 c.args.chars.now c.args.reading.now.recce c.args.reading.now.spans.items c.args.reading.now.ending c.in-Stopped.at c.in-Stopped.found c.in-Stopped.expected c.in-Stopped.is c.requires.read.1 in
    known_in b c.known.ensures.ranges c.written.result.now c.deref.result.now c.in-Stopped.found.items c.written.ensures c.deref.ensures.value known.0

pub stopped_text-requires-clause-expected : goal.stopped_text-requires-clause-expected
stopped_text-requires-clause-expected c =
    let b = c.args.prepared.now in
    let known = stops_known b c.known.ensures.ranges c.requires.read.0 c.args.chars.now c.args.reading.now.recce c.args.reading.now.spans.items c.args.reading.now.ending c.in-Stopped.at c.in-Stopped.found c.in-Stopped.expected c.in-Stopped.is c.requires.read.1 in
    known_in b c.known.ensures.ranges c.written.result.now c.deref-in-Stopped.result.now c.in-Stopped.expected.items c.written.ensures c.deref-in-Stopped.ensures.value known.1

pub returns-in_ok-from_slice-in-Stopped-clause-refused : goal.returns-in_ok-from_slice-in-Stopped-clause-refused
returns-in_ok-from_slice-in-Stopped-clause-refused c given read =
    let b = c.args.prepared.now in
    let cs = c.args.chars.now in
    subst (λ p. IsStopText b given cs c.in_ok-text-in-Stopped.text.items (Some p) c.in_ok-from_slice-in-Stopped.field-0.items) (sym c.place_in.ensures)
    (stop_told b given cs c.args.reading.now.recce c.args.reading.now.spans.items c.args.reading.now.ending c.in-Stopped.at c.in-Stopped.found c.in-Stopped.expected c.in-Stopped.is read
    c.written.result.now c.deref.result.now c.deref-in-Stopped.result.now c.written.ensures c.deref.ensures.value c.deref-in-Stopped.ensures.value
    c.in_ok-text-in-Stopped.text.items c.in_ok-text-in-Stopped.ensures c.in_ok-from_slice-in-Stopped.field-0.items (c.in_ok-from_slice-in-Stopped.ensures.items ∙ c.deref-in-Stopped-2.ensures.value))
