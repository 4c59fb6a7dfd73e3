use Rattle.value_lines.proofs.Meanings.{meaning_fits}
use Rattle.value_lines.proofs.Fitting.{spans_are}
use Rattle.value_lines.proofs.writing.player_of.Goals as goal

pub new-requires-clause-meaning : goal.new-requires-clause-meaning
new-requires-clause-meaning c = rw (c.written.ensures, c.meaning.ensures) (meaning_fits c.args.prepared.now c.known.ensures.built)

pub new-requires-clause-spans : goal.new-requires-clause-spans
new-requires-clause-spans c =
    spans_are c.args.prepared.now c.known.ensures.accepted.checked.structural c.known.ensures.ranges c.args.chars.now c.args.spans.now c.requires.0 c.requires.1 c.requires.2
