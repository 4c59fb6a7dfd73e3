use Rattle.std.proofs.Common.{arith, ◌∙◌}
use Rattle.slot_analysis.proofs.LevelRows.{firsts_more}
use Rattle.slot_analysis.proofs.levels.push_firsts.Goals as goal

pub loop-s-preserved : goal.loop-s-preserved
loop-s-preserved c = (
  c.in_ok-add.ensures.ok.same_length ∙ c.loop-s.invariant.0,
  firsts_more c.loop-s.rows c.add.new.self c.loop-s.s c.in_ok-add.ensures.ok c.loop-s.invariant.1,
)

pub returns : goal.returns
returns c = record {
  sized = c.loop-s.invariant.0;
  first = λ s lt. c.loop-s.invariant.1 s (omega arith);
}
