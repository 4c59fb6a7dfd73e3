use Rattle.std.proofs.Common.{◌≡◌, ap, ◌∙◌}
use Rattle.grammar_model.specs.Grammar.{rule_at}
use Rattle.grammar_core.specs.Rules.{groups_of}
use Rattle.slot_analysis.proofs.Transfer.{groups_told}
use Rattle.slot_analysis.proofs.packed.Packed.groups_at.Goals as goal

pub returns : goal.returns
returns c =
    let g = c.self.inside.written.now in
    let told : c.groups-groups.result ≡ groups_of (rule_at g c.args.i) = c.groups-groups.ensures ∙ ap groups_of c.rule.ensures.is in
    groups_told g c.self.inside.levels.now c.rule.ensures.sound c.self.invariant c.args.self.now c.self.view_is c.args.i c.requires c.symbol.inside.0 c.groups-groups.result c.place_at.result (c.symbol.view_is ∙ c.lhs-symbol.ensures.is) told c.place_at.ensures
