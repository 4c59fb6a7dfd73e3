use Rattle.std.proofs.Common.{◌≡◌, ap, ◌∙◌}
use Rattle.grammar_model.specs.Grammar.{rule_at, level_of}
use Rattle.slot_analysis.proofs.Transfer.{level_told}
use Rattle.slot_analysis.proofs.packed.Packed.level_at.Goals as goal

pub returns : goal.returns
returns c =
    let g = c.self.inside.written.now in
    let told : c.level-level.result ≡ level_of (rule_at g c.args.i) = c.level-level.ensures ∙ ap level_of c.rule.ensures.is in
    level_told g c.self.inside.levels.now c.rule.ensures.sound c.self.invariant c.args.self.now c.self.view_is c.args.i c.requires c.symbol.inside.0 c.level-level.result c.place_at.result (c.symbol.view_is ∙ c.lhs-symbol.ensures.is) told c.place_at.ensures
