use Rattle.std.proofs.Common.{true≢false, sym, ◌∙◌}
use Rattle.grammar_model.specs.Analysis.{IsAccessible, IsProductive}
use Rattle.grammar_check.proofs.Linking.{cause_told}
use Rattle.grammar_check.proofs.links.is_part_used.Goals as goal

pub returns-then-has : goal.returns-then-has
returns-then-has c =
    let a = cause_told (IsAccessible c.args.w.now) c.args.w.now c.args.slots.now.bases.now c.args.slots.now.reach.now c.args.i c.args.k c.child_number-child.result c.has.result c.known.ensures c.requires.numbering c.requires.rule c.requires.part c.requires.reach.exact c.child_number-child.ensures c.has.ensures in
    let p = cause_told (IsProductive c.args.w.now) c.args.w.now c.args.slots.now.bases.now c.args.slots.now.productive.now c.args.i c.args.k c.child_number-child.result c.has-then-has.result c.known.ensures c.requires.numbering c.requires.rule c.requires.part c.requires.productive.exact c.child_number-child.ensures c.has-then-has.ensures in
    (λ t. (a.0 c.if-has.true, p.0 t), λ h. p.1 h.1)

pub returns-else-has : goal.returns-else-has
returns-else-has c =
    let a = cause_told (IsAccessible c.args.w.now) c.args.w.now c.args.slots.now.bases.now c.args.slots.now.reach.now c.args.i c.args.k c.child_number-child.result c.has.result c.known.ensures c.requires.numbering c.requires.rule c.requires.part c.requires.reach.exact c.child_number-child.ensures c.has.ensures in
    (λ t. absurd (true≢false (sym t ∙ c.if-has.false)), λ h. a.1 h.0)
