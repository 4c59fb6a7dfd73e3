use Rattle.std.proofs.Common.{◌∙◌, length, get_or, ap, arith}
use Rattle.valuator.specs.Told.{action_in}
use Rattle.valuator.proofs.Firsts.{first_inside, action_found, action_none}
use Rattle.valuator.proofs.Played.{rules_count}
use Rattle.valuator.proofs.nulling.nulling_action.Goals as goal

pub returns-in_err-rule : goal.returns-in_err-rule
returns-in_err-rule c =
    ap action_in c.from_residual.ensures
    ∙ action_none c.args.w.now c.args.meaning.now c.args.symbol
    (first_inside c.args.w.now c.args.rules.now _ c.args.symbol _ _ c.requires.first c.requires.symbol c.symbol.view_is c.index-rules-symbol.is c.in_err-rule.was)

pub bounds-as_slice-rule-inside : goal.bounds-as_slice-rule-inside
bounds-as_slice-rule-inside c =
    let first = first_inside c.args.w.now c.args.rules.now _ c.args.symbol _ _ c.requires.first c.requires.symbol c.symbol.view_is c.index-rules-symbol.is c.in_ok-rule.was in
    let inside = rules_count c.args.meaning.now _ c.in_ok-rule.rule c.requires.meaning.count first.0 in
    omega (arith, inside, c.rule.view_is, ap length c.as_slice.ensures)

pub returns : goal.returns
returns c =
    let first = first_inside c.args.w.now c.args.rules.now _ c.args.symbol _ _ c.requires.first c.requires.symbol c.symbol.view_is c.index-rules-symbol.is c.in_ok-rule.was in
    action_found c.args.w.now c.args.meaning.now c.args.symbol c.in_ok-rule.rule _ c.index-as_slice-rule.result c.requires.meaning.count first
    (λ k. get_or (c.as_slice.ensures k) (c.rule.view_is k) c.index-as_slice-rule.result)
