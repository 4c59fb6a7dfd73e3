use Rattle.slif_parser.proofs.Going.{under_way}
use Rattle.slif_parser.proofs.derivations.Derivations.of.Goals as goal

pub invariant_of-result : goal.invariant_of-result
invariant_of-result c = under_way c.args.prepared.now c.args.lexemes.now c.args.chars.now c.args.spans.now c.args.forest.now c.in_ok-iter.iter c.requires c.in_ok-iter.ensures.begun c.in_ok-iter.ensures.none
