use Rattle.text_reading.proofs.InputLemmas.{expected_known, known_in}
use Rattle.text_reading.proofs.forests.no_derivation.Goals as goal

pub append_names-requires : goal.append_names-requires
append_names-requires c =
    let b = c.args.prepared.now in
    known_in b c.known.ensures.ranges c.written.result.now c.deref.result.now c.in_ok-expected.expected.items c.written.ensures c.deref.ensures.value
    (expected_known b c.known.ensures.ranges c.requires.0 c.in_ok-expected.expected.items (c.in_ok-expected.ensures c.requires.0 c.requires.1))
