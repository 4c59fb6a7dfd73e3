use Rattle.std.proofs.Common.{◌==◌, position, ap, ◌∙◌}
use Rattle.forest_model.specs.Forest.{Alternative}
use Rattle.bocage.proofs.Telling.{position_told}
use Rattle.bocage.proofs.forest.Alternatives.position.Goals as goal

pub returns : goal.returns
returns c =
    c.row_from.ensures ∙ position_told c.self.inside.wholes.now c.self.inside.rows.now c.args.start ∙ ap (position (λ (a : Alternative). a.start == c.args.start)) c.self.view_is
