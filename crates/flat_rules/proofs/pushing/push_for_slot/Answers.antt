use Rattle.std.proofs.Common.{ap, ◌∙◌, sym, ◌++◌}
use Rattle.std.specs.Prelude.{not, ◌&&◌}
use Rattle.std.proofs.lemmas.List.{append-nil}
use Rattle.grammar_model.specs.Grammar.{rule_at}
use Rattle.grammar_core.specs.Rules.{is_sequence}
use Rattle.flat_rules.specs.Tables.{told_slot}
use Rattle.flat_rules.specs.Added.{from_rule, lists_by, plain_by, is_proper_rule, counts_separator}
use Rattle.flat_rules.proofs.Adding.{adds_to}
use Rattle.flat_rules.proofs.SlotRules.{none_of, plain_of, lists_of}
use Rattle.flat_rules.proofs.pushing.push_for_slot.Goals as goal

pub returns-then-not-makes_rules : goal.returns-then-not-makes_rules
returns-then-not-makes_rules c = λ d.
    let none = none_of c.args.c.now d c.args.symbols.now c.args.i c.args.slot.symbol c.args.slot.level c.requires.left (sym (c.makes_rules.ensures d) ∙ c.if-not-makes_rules.true) in
    (sym (append-nil c.args.rules.now.items) ∙ ap (λ l. c.args.rules.now.items ++ l) none, (λ le. le))

pub returns-then-is_sequence : goal.returns-then-is_sequence
returns-then-is_sequence c = λ d.
    let t = c.args.symbols.now in
    let rule = rule_at c.args.c.now c.args.i in
    let trails = not (is_proper_rule rule) && counts_separator d rule in
    let more = ap (λ g. is_sequence (rule_at g c.args.i)) (sym c.written-w.ensures) ∙ (sym (c.is_sequence.ensures ∙ ap is_sequence c.rule.ensures.is) ∙ c.if-is_sequence.true) in
    adds_to c.args.rules.now.items c.push_lists.new.rules.items _ (from_rule c.args.c.now d t (told_slot c.args.slot) c.args.i) c.push_lists.result
    (ap (λ n. lists_by t c.args.i n trails rule) c.slot_number-lhs.ensures
    ∙ lists_of c.args.c.now d t c.args.i c.args.slot.symbol c.args.slot.level c.requires.left (sym (c.makes_rules.ensures d) ∙ c.if-not-makes_rules.false) more) (c.push_lists.ensures d)

pub returns-else-is_sequence : goal.returns-else-is_sequence
returns-else-is_sequence c = λ d.
    let t = c.args.symbols.now in
    let rule = rule_at c.args.c.now c.args.i in
    let other = ap (λ g. is_sequence (rule_at g c.args.i)) (sym c.written-w.ensures) ∙ (sym (c.is_sequence.ensures ∙ ap is_sequence c.rule.ensures.is) ∙ c.if-is_sequence.false) in
    adds_to c.args.rules.now.items c.push_plain.new.rules.items _ (from_rule c.args.c.now d t (told_slot c.args.slot) c.args.i) c.push_plain.result
    ((λ z. plain_by t c.args.i (c.slot_number-lhs.ensures z) (rule_at (c.written-w.ensures z) c.args.i))
    ∙ plain_of c.args.c.now d t c.args.i c.args.slot.symbol c.args.slot.level c.requires.rule c.requires.left (sym (c.makes_rules.ensures d) ∙ c.if-not-makes_rules.false) other) c.push_plain.ensures
