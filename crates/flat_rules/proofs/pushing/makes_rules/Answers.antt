use Rattle.std.proofs.Common.{ap, ◌∙◌, false}
use Rattle.std.specs.Prelude.{nat_le}
use Rattle.grammar_model.specs.Grammar.{rule_at, level_of}
use Rattle.flat_rules.proofs.SlotRules.{makes_then}
use Rattle.flat_rules.proofs.pushing.makes_rules.Goals as goal

pub returns-then-live-i : goal.returns-then-live-i
returns-then-live-i c = λ d.
    makes_then c.args.c.now d c.args.i c.args.level _ (nat_le c.args.level c.level.result) c.args.live.now c.requires.live c.requires.rule c.if-live-i.true
    (ap (nat_le c.args.level) (c.level.ensures ∙ ap level_of c.rule.ensures.is ∙ ap (λ g. level_of (rule_at g c.args.i)) c.written.ensures))

pub returns-else-live-i : goal.returns-else-live-i
returns-else-live-i c = λ d.
    c.if-live-i.false ∙ makes_then c.args.c.now d c.args.i c.args.level false (nat_le c.args.level (level_of (rule_at c.args.c.now c.args.i))) c.args.live.now c.requires.live c.requires.rule c.if-live-i.false (λ i. nat_le c.args.level (level_of (rule_at c.args.c.now c.args.i)))
