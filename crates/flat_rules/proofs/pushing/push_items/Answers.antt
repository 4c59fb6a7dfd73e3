use Rattle.std.proofs.Common.{[], ◌∷◌}
use Rattle.grammar_model.specs.Grammar.{rule_at}
use Rattle.recognizer_model.specs.declared.flat.FlatSymbol.TheVariants.{Sequence}
use Rattle.flat_rules.specs.Tables.{number_in}
use Rattle.flat_rules.specs.Added.{rule_by, longer_by, counts_separator, part_in}
use Rattle.flat_rules.proofs.Adding.{adds_given}
use Rattle.flat_rules.proofs.pushing.push_items.Goals as goal

pub returns-in_err-push_longer : goal.returns-in_err-push_longer
returns-in_err-push_longer c = λ d.
    let t = c.args.symbols.now in
    let rule = rule_at c.args.c.now c.args.i in
    adds_given (Unit {0}) (Unit {0}) c.args.rules.now.items c.push_longer.new.rules.items c.push_longer.new.rules.items (longer_by t c.args.i (counts_separator d rule) rule)
    (rule_by c.args.i (number_in t (Sequence c.args.i)) (part_in t rule 0 ∷ []) ∷ []) c.in_err-push_longer.field-0.0 c.from_residual.result c.from_residual.ensures.1 (c.in_err-push_longer.ensures d)
