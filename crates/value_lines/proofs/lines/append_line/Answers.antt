use Rattle.grammar_model.specs.Values.{value_of}
use Rattle.valuator.specs.Play.{tokens_of}
use Rattle.value_lines.proofs.Fitting.{told_one, back_on_ok}
use Rattle.value_lines.proofs.lines.append_line.Goals as goal

pub finish_first-requires : goal.finish_first-requires
finish_first-requires g c =
    let tree = c.requires.list.tree in
    let show = c.requires.tellers.0 in (
      show,
      value_of show c.args.player.now.grammar c.args.player.now.meaning (tokens_of c.args.player.now.chars c.args.player.now.spans) tree,
      told_one _ show _ _ c.requires.tellers.1 (c.in_ok-play.ensures.ok tree c.requires.list.are),
    )

pub returns-clause-tellers : goal.returns-clause-tellers
returns-clause-tellers g c =
    let tree = c.requires.list.tree in
    let show = c.requires.tellers.0 in
    let v = value_of show c.args.player.now.grammar c.args.player.now.meaning (tokens_of c.args.player.now.chars c.args.player.now.spans) tree in
    back_on_ok c.finish_first.result _ _ _ c.requires.tellers.1 (c.finish_first.ensures.tellers show v (told_one _ show _ _ c.requires.tellers.1 (c.in_ok-play.ensures.ok tree c.requires.list.are)))
