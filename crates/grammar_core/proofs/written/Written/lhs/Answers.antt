use Rattle.std.proofs.Common.{◌<◌, ◌∙◌, length, sym, ap, subst}
use Rattle.grammar_model.specs.Grammar.{lhs_of}
use Rattle.grammar_core.proofs.Known.{lhs_known}
use Rattle.grammar_core.proofs.written.Written.lhs.Goals as goal

pub returns-clause-known : goal.returns-clause-known
returns-clause-known c =
    subst (λ s. s < length c.args.self.now.names) (sym (c.lhs.ensures ∙ ap lhs_of c.rule.ensures.is)) (lhs_known c.args.self.now c.args.k c.rule.ensures.sound c.requires)
