use Rattle.base_tests.proofs.RowLemmas.{ends_nulled_steps}
use Rattle.base_tests.proofs.plays.play_nulled.Goals as goal

pub play-requires-clause-list : goal.play-requires-clause-list
play-requires-clause-list g c = ends_nulled_steps c.args.w.now c.requires.sound c.requires.rules
