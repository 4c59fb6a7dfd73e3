use Rattle.std.proofs.Common.{◌∙◌, min, ap}
use Rattle.text_reading.specs.Refusals.{place_in}
use Rattle.slif_parser.specs.Views.{Read}
use Rattle.slif_parser.proofs.Clipping.{placed}
use Rattle.slif_parser.proofs.reading.Reading.place.Goals as goal

pub returns : goal.returns
returns c =
    let cs = c.self.inside.chars in
    placed cs c.args.character c.min-at.result c.line_column-line.result.0 c.line_column-line.result.1 (c.min-at.ensures ∙ ap (min c.args.character) c.len.ensures) c.line_column-line.ensures.line c.line_column-line.ensures.column
    ∙ ap (λ (r : Read). place_in r.characters c.args.character) c.self.view_is
