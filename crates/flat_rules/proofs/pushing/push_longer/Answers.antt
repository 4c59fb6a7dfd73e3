use Rattle.std.proofs.Common.{◌≡◌, ap, ◌∙◌, sym, true}
use Rattle.grammar_model.specs.Grammar.{rule_at}
use Rattle.flat_rules.specs.Added.{longer_by, counts_separator, part_in, has_separator_rule}
use Rattle.flat_rules.proofs.Adding.{adds_to, longer_three}
use Rattle.flat_rules.proofs.pushing.push_longer.Goals as goal

pub returns : goal.returns
returns c = λ d.
    let w = c.written-w.result.now in
    let same = c.written-w.ensures in
    let rule = rule_at c.args.c.now c.args.i in
    let t = c.args.symbols.now in
    let has : has_separator_rule rule ≡ true = ap (λ g. has_separator_rule (rule_at g c.args.i)) (sym same) ∙ (sym (c.has_separator.ensures ∙ ap has_separator_rule c.rule.ensures.is) ∙ c.if-not-has_separator.false) in
    adds_to c.args.rules.now.items c.push_these-2.new.rules.items _ (longer_by t c.args.i (counts_separator d rule) rule) c.push_these-2.result
    (longer_three t c.args.i (counts_separator d rule) rule c.list_number-list.result c.part_number-separator.result c.part_number-item.result has
    (sym (c.has_live_separator.ensures.counts d) ∙ c.if-not-has_live_separator.false) c.list_number-list.ensures
    (c.part_number-separator.ensures ∙ ap (λ g. part_in t (rule_at g c.args.i) 1) same) (c.part_number-item.ensures ∙ ap (λ g. part_in t (rule_at g c.args.i) 0) same)) c.push_these-2.ensures
