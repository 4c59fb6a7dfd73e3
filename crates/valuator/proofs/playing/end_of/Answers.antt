use Rattle.std.proofs.Common.{arith}
use Rattle.valuator.proofs.Played.{end_of_span}
use Rattle.valuator.proofs.playing.end_of.Goals as goal

pub returns : goal.returns
returns c = end_of_span _ _ c.args.place _ (omega arith) c.requires.place
