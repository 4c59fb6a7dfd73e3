use Rattle.std.proofs.Common.{◌∙◌, min, ap}
use Rattle.slif_parser.proofs.Clipping.{clipped}
use Rattle.slif_parser.proofs.places.text_between.Goals as goal

pub returns : goal.returns
returns c =
    c.text.ensures.characters ∙ clipped c.args.chars.now c.args.start c.args.end c.min-end.result c.min-start.result (c.min-end.ensures ∙ ap (min c.args.end) c.len.ensures) c.min-start.ensures
