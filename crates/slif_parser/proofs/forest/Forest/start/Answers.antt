use Rattle.value_lines.proofs.Fitting as fitting
use Rattle.std.proofs.Common.{length}
use Rattle.slif_parser.proofs.Firsts.{ends_small}
use Rattle.slif_parser.proofs.forest.Forest.start.Goals as goal

pub start_of-requires : goal.start_of-requires
start_of-requires c =
    let b = c.self.inside.prepared.now in
    let cs = c.self.inside.chars.now in
    let spans = c.self.inside.spans.now in
    let has = c.self.invariant in
    ends_small (length cs) spans (fitting.spans_are b c.known.ensures.accepted.checked.structural c.known.ensures.ranges cs spans c.self.inside.forest has.pieces has.of)
