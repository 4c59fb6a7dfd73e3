use Rattle.std.proofs.Common.{◌∙◌, ◌++◌, ap, map, arith}
use Rattle.std.proofs.lemmas.List.{take_all}
use Rattle.slot_analysis.specs.Slots.{rule_clause}
use Rattle.slot_analysis.proofs.clauses.push_rules.Goals as goal

pub returns : goal.returns
returns c =
    let done = c.loop-i-test.false in
    let count = c.rule_count-i-end.ensures.count in
    c.loop-i.invariant ∙ ap (λ l. c.args.clauses.now ++ map (rule_clause c.args.separators c.args.bases.now) l) (take_all c.loop-i.i c.args.w.now.rules (omega arith))
