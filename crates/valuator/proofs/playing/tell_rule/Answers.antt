use Rattle.std.proofs.Common.{◌≡◌, ◌<◌, length, arith, ap, sym, subst, refl, ◌∙◌, Some, None}
use Rattle.std.specs.Prelude.{if◌then◌else◌}
use Rattle.std.proofs.lemmas.Result.{on_ok_weaker, IfOk-from_err}
use Rattle.grammar_model.specs.Grammar.{lhs_of, rule_at}
use Rattle.grammar_model.specs.Values.{RuleMeaning, name_of, items_shown, meaning_at, shown_of}
use Rattle.value_text.specs.Meaning.{meaning_of}
use Rattle.valuator.proofs.Played.{told_rule, sequence_shown, plain_shown, length-items_shown, meaning_found, rules_count, read_rule}
use Rattle.valuator.proofs.playing.tell_rule.Goals as goal

pub pass_rule-requires-clause-count : goal.pass_rule-requires-clause-count
pass_rule-requires-clause-count g c =
    let count : length c.as_slice-then-meaning.result.now ≡ c.args.children = ap length (c.as_slice-then-meaning.ensures.value ∙ c.in_ok-list_items.ensures) ∙ length-items_shown _ _ in
    omega (arith, count, c.ranges.children.fits)

pub pass_rule-requires-clause-held : goal.pass_rule-requires-clause-held
pass_rule-requires-clause-held g c =
    let count : length c.as_slice-then-meaning.result.now ≡ c.args.children = ap length (c.as_slice-then-meaning.ensures.value ∙ c.in_ok-list_items.ensures) ∙ length-items_shown _ _ in
    omega (arith, count, c.requires.step.5)

pub returns-in_ok-list_items-clause-ok : goal.returns-in_ok-list_items-clause-ok
returns-in_ok-list_items-clause-ok g c =
    let inside = rules_count c.args.p.now.meaning.now _ c.args.rule c.requires.meaning.count c.requires.step.0 in
    let meant = meaning_found c.args.p.now.meaning.now _ _ c.args.rule c.index-as_slice-rule.result c.as_slice.ensures c.rule.view_is inside c.index-as_slice-rule.is in
    let name = c.name_in-name.ensures ∙ ap (name_of c.args.p.now.w.now) (c.lhs.ensures ∙ ap lhs_of (sym (read_rule c.args.p.now.w.now c.args.rule _ c.written_rule.ensures))) in
    let from : c.args.from < length c.args.p.now.spans.now = omega (arith, c.requires.step.3, c.requires.step.4) in
    let suits = c.requires.meaning.suits c.args.rule c.requires.step.0 in
    let items = c.as_slice-then-meaning.ensures.value ∙ c.in_ok-list_items.ensures in
    let count : length c.as_slice-then-meaning.result.now ≡ c.args.children = ap length items ∙ length-items_shown _ _ in
    let shown : c.as_slice-then-meaning.result.now ≡ shown_of (rule_at c.args.p.now.w.now c.args.rule) (meaning_at (meaning_of c.args.p.now.meaning.now) c.args.rule).shown c.args.children =
    sequence_shown _ _ _ _ suits (ap (λ (r : RuleMeaning). r.sequence) meant ∙ c.if-meaning.true) (items ∙ ap (λ (r : RuleMeaning). items_shown (if r.separated then Some 0 else None) c.args.children) (sym meant)) in
    on_ok_weaker c.pass_rule.result
    (λ e. told_rule _ c.args.p.now.w.now (meaning_of c.args.p.now.meaning.now) c.args.p.now.chars.now c.args.p.now.spans.now _ _ c.args.rule c.args.children c.args.from c.args.to _ _ _ _ _
    name shown from c.end_of-end.ensures (sym (ap (λ (r : RuleMeaning). r.action) meant)) count e)
    c.pass_rule.ensures.ok

pub returns-else-meaning-clause-ok : goal.returns-else-meaning-clause-ok
returns-else-meaning-clause-ok g c =
    let inside = rules_count c.args.p.now.meaning.now _ c.args.rule c.requires.meaning.count c.requires.step.0 in
    let meant = meaning_found c.args.p.now.meaning.now _ _ c.args.rule c.index-as_slice-rule.result c.as_slice.ensures c.rule.view_is inside c.index-as_slice-rule.is in
    let name = c.name_in-name.ensures ∙ ap (name_of c.args.p.now.w.now) (c.lhs.ensures ∙ ap lhs_of (sym (read_rule c.args.p.now.w.now c.args.rule _ c.written_rule.ensures))) in
    let from : c.args.from < length c.args.p.now.spans.now = omega (arith, c.requires.step.3, c.requires.step.4) in
    let suits = c.requires.meaning.suits c.args.rule c.requires.step.0 in
    let plain = plain_shown _ _ c.args.children suits (ap (λ (r : RuleMeaning). r.sequence) meant ∙ c.if-meaning.false) c.requires.step.2 in
    let shown = c.as_slice-else-meaning.ensures ∙ ap (λ (r : RuleMeaning). r.shown) (sym meant) ∙ plain.0 in
    let count : length c.as_slice-else-meaning.result.now ≡ c.args.children = ap length (c.as_slice-else-meaning.ensures ∙ ap (λ (r : RuleMeaning). r.shown) (sym meant)) ∙ plain.1 in
    on_ok_weaker c.pass_rule-else-meaning.result
    (λ e. told_rule _ c.args.p.now.w.now (meaning_of c.args.p.now.meaning.now) c.args.p.now.chars.now c.args.p.now.spans.now _ _ c.args.rule c.args.children c.args.from c.args.to _ _ _ _ _
    name shown from c.end_of-end.ensures (sym (ap (λ (r : RuleMeaning). r.action) meant)) count e)
    c.pass_rule-else-meaning.ensures.ok

pub name_in-name-requires : goal.name_in-name-requires
name_in-name-requires g c =
    subst (λ s. s < length c.args.p.now.w.now.names) (sym (c.lhs.ensures ∙ ap lhs_of (sym (read_rule c.args.p.now.w.now c.args.rule _ c.written_rule.ensures)))) c.requires.step.1

pub end_of-end-requires-clause-spans : goal.end_of-end-requires-clause-spans
end_of-end-requires-clause-spans g c = c.requires.spans

pub end_of-end-requires-clause-place : goal.end_of-end-requires-clause-place
end_of-end-requires-clause-place g c = c.requires.step.4

pub returns-in_err-list_items-clause-ok : goal.returns-in_err-list_items-clause-ok
returns-in_err-list_items-clause-ok g c = IfOk-from_err _ _ c.from_residual.ensures.0

pub returns-in_err-list_items-clause-kind : goal.returns-in_err-list_items-clause-kind
returns-in_err-list_items-clause-kind g c = refl

pub pass_rule-requires-clause-places : goal.pass_rule-requires-clause-places
pass_rule-requires-clause-places g c = omega (arith, c.requires.step.3)

pub pass_rule-requires-else-meaning-clause-places : goal.pass_rule-requires-else-meaning-clause-places
pass_rule-requires-else-meaning-clause-places g c = omega (arith, c.requires.step.3)

pub returns-in_ok-list_items-clause-kind : goal.returns-in_ok-list_items-clause-kind
returns-in_ok-list_items-clause-kind g c = c.pass_rule.ensures.kind

pub returns-else-meaning-clause-kind : goal.returns-else-meaning-clause-kind
returns-else-meaning-clause-kind g c = c.pass_rule-else-meaning.ensures.kind

pub pass_rule-requires-else-meaning-clause-count : goal.pass_rule-requires-else-meaning-clause-count
pass_rule-requires-else-meaning-clause-count g c =
    let inside = rules_count c.args.p.now.meaning.now _ c.args.rule c.requires.meaning.count c.requires.step.0 in
    let meant = meaning_found c.args.p.now.meaning.now _ _ c.args.rule c.index-as_slice-rule.result c.as_slice.ensures c.rule.view_is inside c.index-as_slice-rule.is in
    let plain = plain_shown _ _ c.args.children (c.requires.meaning.suits c.args.rule c.requires.step.0) (ap (λ (r : RuleMeaning). r.sequence) meant ∙ c.if-meaning.false) c.requires.step.2 in
    let count : length c.as_slice-else-meaning.result.now ≡ c.args.children = ap length (c.as_slice-else-meaning.ensures ∙ ap (λ (r : RuleMeaning). r.shown) (sym meant)) ∙ plain.1 in
    omega (arith, count, c.ranges.children.fits)

pub pass_rule-requires-else-meaning-clause-held : goal.pass_rule-requires-else-meaning-clause-held
pass_rule-requires-else-meaning-clause-held g c =
    let inside = rules_count c.args.p.now.meaning.now _ c.args.rule c.requires.meaning.count c.requires.step.0 in
    let meant = meaning_found c.args.p.now.meaning.now _ _ c.args.rule c.index-as_slice-rule.result c.as_slice.ensures c.rule.view_is inside c.index-as_slice-rule.is in
    let plain = plain_shown _ _ c.args.children (c.requires.meaning.suits c.args.rule c.requires.step.0) (ap (λ (r : RuleMeaning). r.sequence) meant ∙ c.if-meaning.false) c.requires.step.2 in
    let count : length c.as_slice-else-meaning.result.now ≡ c.args.children = ap length (c.as_slice-else-meaning.ensures ∙ ap (λ (r : RuleMeaning). r.shown) (sym meant)) ∙ plain.1 in
    omega (arith, count, c.requires.step.5)
