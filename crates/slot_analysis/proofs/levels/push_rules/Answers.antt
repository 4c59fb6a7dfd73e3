use Rattle.std.proofs.Common.{◌<◌, sym, ap, subst, arith}
use Rattle.grammar_model.specs.Grammar.{lhs_of, level_of}
use Rattle.grammar_core.specs.Written.{rule_of}
use Rattle.grammar_core.specs.Rules.{groups_of}
use Rattle.grammar_core.proofs.Known.{lhs_known, level_below}
use Rattle.slot_analysis.proofs.LevelRows.{levels_none, levels_more}
use Rattle.slot_analysis.proofs.levels.push_rules.Goals as goal

pub loop-i-init : goal.loop-i-init
loop-i-init c = levels_none c.args.w.now c.args.rows.now c.requires

pub push_rule-requires-clause-row : goal.push_rule-requires-clause-row
push_rule-requires-clause-row c =
    let known = lhs_known c.args.w.now c.loop-i.i c.rule.ensures.sound (omega (arith, c.rule_count-i-end.ensures.count)) in
    let is = ap lhs_of c.rule.ensures.is in
    omega (arith, known, is, c.loop-i.invariant.sized)

pub push_rule-requires-clause-level : goal.push_rule-requires-clause-level
push_rule-requires-clause-level c =
    subst (λ r. level_of r < groups_of r) (sym c.rule.ensures.is) (level_below c.args.w.now c.loop-i.i c.rule.ensures.sound (omega (arith, c.rule_count-i-end.ensures.count)))

pub loop-i-preserved : goal.loop-i-preserved
loop-i-preserved c =
    let rule = rule_of c.rule.result.now in
    levels_more c.args.w.now c.loop-i.rows c.push_rule.new.rows c.loop-i.i (lhs_of rule) (level_of rule) c.loop-i.invariant c.in_ok-push_rule.ensures (ap lhs_of c.rule.ensures.is) (ap level_of c.rule.ensures.is)
