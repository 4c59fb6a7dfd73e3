use Rattle.std.proofs.Common.{◌<◌, ◌∙◌, sym, ap, subst, length}
use Rattle.grammar_model.specs.Grammar.{child_slot}
use Rattle.plain_lister.proofs.Building.{part_known}
use Rattle.plain_lister.proofs.rules.part_of.Goals as goal

pub returns-clause-known : goal.returns-clause-known
returns-clause-known c =
    let is = c.part_at.ensures ∙ ap (λ r. (child_slot r c.args.k).symbol) c.rule.ensures.is in
    subst (λ s. s < length c.args.w.now.names) (sym is) (part_known c.args.w.now c.args.i c.args.k c.rule.ensures.sound c.requires.rule c.requires.part)
