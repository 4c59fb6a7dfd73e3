use Rattle.prepared_grammars.proofs.Listed.{pushed}
use Rattle.prepared_grammars.proofs.abilities.abilities_of.Goals as goal

pub loop-s-preserved : goal.loop-s-preserved
loop-s-preserved c = pushed c.args.c.now c.loop-s.s c.loop-s.abilities.items c.push.new.self.items c.ability_of.result c.loop-s.invariant c.ability_of.ensures c.in_ok-push.ensures.items
