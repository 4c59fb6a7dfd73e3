use Rattle.slif_parser.proofs.Going.{spans_known}
use Rattle.slif_parser.proofs.derivations.Derivations.append_line.Goals as goal

pub append_shown-requires-clause-spans : goal.append_shown-requires-clause-spans
append_shown-requires-clause-spans c =
    spans_known c.self.inside.prepared.now c.known.ensures.accepted.checked.structural c.known.ensures.ranges c.self.inside.lexemes.now c.self.inside.chars.now c.self.inside.spans.now c.self.inside.iter c.self.invariant
