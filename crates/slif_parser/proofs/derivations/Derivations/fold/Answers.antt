use Rattle.slif_parser.proofs.Going.{spans_known}
use Rattle.slif_parser.proofs.derivations.Derivations.fold.Goals as goal

pub fold_steps-requires-clause-spans : goal.fold_steps-requires-clause-spans
fold_steps-requires-clause-spans g c =
    spans_known c.self.inside.prepared.now c.known.ensures.accepted.checked.structural c.known.ensures.ranges c.self.inside.lexemes.now c.self.inside.chars.now c.self.inside.spans.now c.self.inside.iter c.self.invariant
