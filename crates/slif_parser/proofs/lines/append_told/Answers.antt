use Rattle.value_lines.proofs.Fitting.{told_one}
use Rattle.value_lines.proofs.Meanings.{meaning_fits}
use Rattle.slif_parser.proofs.lines.append_told.Goals as goal

pub play-requires-clause-meaning : goal.play-requires-clause-meaning
play-requires-clause-meaning g c = rw (c.written.ensures, c.meaning.ensures) (meaning_fits c.args.prepared.now c.known.ensures.built)

pub finish_first-requires : goal.finish_first-requires
finish_first-requires g c = (c.requires.tellers.0, _, told_one _ c.requires.tellers.0 _ _ c.requires.tellers.1 (c.in_ok-play.ensures.ok c.requires.list.tree c.requires.list.are))
