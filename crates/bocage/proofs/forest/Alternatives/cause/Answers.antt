use Rattle.std.proofs.Common.{◌<◌, length, sym, subst, arith, List, ap, get_or}
use Rattle.std.proofs.lemmas.List.{length-map}
use Rattle.std.proofs.lemmas.List.Elements.{Contains-get_or}
use Rattle.forest_model.specs.Forest.{Alternative}
use Rattle.bocage.specs.declared.rows.AlternativeRow.{AlternativeRow}
use Rattle.bocage.specs.Rows.{alternative_of, no_alternative, IsCauseWithin}
use Rattle.bocage.proofs.forest.Alternatives.cause.Goals as goal

pub cause_at-requires : goal.cause_at-requires
cause_at-requires c =
    let l = length-map c.self.inside.rows.now (alternative_of c.self.inside.wholes.now) in
    let v = ap (λ (xs : List Alternative). length xs) c.self.view_is in
    let r = c.requires in
    let lt : c.args.k < length c.self.inside.rows.now = omega arith in
    subst (λ (a : AlternativeRow). IsCauseWithin c.self.inside.wholes.now a.cause) (sym c.alternative_row.ensures) (c.self.invariant (get_or c.self.inside.rows.now c.args.k no_alternative) (Contains-get_or c.self.inside.rows.now c.args.k no_alternative lt))
