use Rattle.std.proofs.Common.{◌∙◌, ap₂, sym, arith}
use Rattle.std.proofs.lemmas.List.Sums.{fold_more}
use Rattle.clap.specs.Words.{app_of, with_rule}
use Rattle.command_line.specs.Command.{option_rule}
use Rattle.command_line.proofs.command.with_options.Goals as goal

pub loop-name-preserved : goal.loop-name-preserved
loop-name-preserved c =
    c.in_ok-command.ensures.shape c.option.ensures.local ∙ ap₂ with_rule c.loop-name.invariant c.option.ensures.rule
    ∙ sym (fold_more (λ app name. with_rule app (option_rule name.now)) (app_of c.args.command) c.args.names.now c.loop-name.name-index _ (omega arith))
