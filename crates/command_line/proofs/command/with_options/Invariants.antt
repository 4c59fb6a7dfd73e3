use Rattle.std.proofs.Common.{◌≡◌, fold, take}
use Rattle.clap.specs.Words.{app_of, with_rule}
use Rattle.command_line.specs.Command.{option_rule}
use Rattle.command_line.proofs.command.with_options.Given as goal

abbrev pub invariant-loop-name : goal.invariant-loop-name
invariant-loop-name l = app_of l.command ≡ fold (λ app name. with_rule app (option_rule name.now)) (app_of l.initial.command) (take l.name-index l.names)
