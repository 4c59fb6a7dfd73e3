use Rattle.std.proofs.Common.{◌≡◌, ◌∙◌, arith}
use Rattle.std.proofs.lemmas.Result.{on_ok_weaker}
use Rattle.grammar_model.specs.Grammar.{lhs_of}
use Rattle.grammar_core.specs.Written.{rule_of}
use Rattle.slot_analysis.proofs.LevelRows.{both_added}
use Rattle.slot_analysis.proofs.levels.push_rule.Goals as goal

pub add-requires-2 : goal.add-requires-2
add-requires-2 c = let e = c.in_ok-add.ensures.ok.same_length in omega (arith, e, c.requires.row)

pub returns : goal.returns
returns c =
    let left : c.left.inside.0 ≡ lhs_of (rule_of c.args.rule.now) = c.left.view_is ∙ c.lhs-left.ensures in
    rw (← left, ← c.level-level.ensures) (on_ok_weaker c.add-2.result (both_added c.args.rows.now c.add.new.self c.add-2.new.self c.left.inside.0 c.level-level.result c.in_ok-add.ensures.ok) c.add-2.ensures.ok)
