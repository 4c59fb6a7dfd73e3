use Rattle.std.proofs.Common.{◌<◌, ◌≤◌, [], ◌∷◌, ◌++◌, length, map, sym, ap, ◌∙◌, arith}
use Rattle.std.proofs.lemmas.List.{map_more, take_all}
use Rattle.grammar_model.specs.Grammar.{lhs_of}
use Rattle.plain_lister.proofs.lefts_of.Goals as goal

pub loop-i-preserved : goal.loop-i-preserved
loop-i-preserved c =
    let rules = c.args.w.now.rules in
    let i = c.loop-i.i in
    let lt : i < length rules = omega (arith, c.rule_count-i-end.ensures.count) in
    c.in_ok-push.ensures.items ∙ (λ z. c.loop-i.invariant z ++ (c.push.view_is ∙ c.lhs.ensures.is) z ∷ [])
    ∙ sym (map_more lhs_of rules i _ lt)

pub returns : goal.returns
returns c =
    let all : length c.args.w.now.rules ≤ c.loop-i.i = omega (arith, c.rule_count-i-end.ensures.count) in
    c.loop-i.invariant ∙ ap (map lhs_of) (take_all c.loop-i.i c.args.w.now.rules all)
