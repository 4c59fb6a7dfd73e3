use Rattle.std.proofs.Common.{ap, ap₂, codes, true, ◌≡◌, ◌∙◌}
use Rattle.std.proofs.lemmas.Result.{IfOk-weaker}
use Rattle.clap.specs.Simple.{app_of_fields}
use Rattle.clap.specs.Words.{App, app_of, new_app, with_rule}
use Rattle.clap.specs.declared.builder.command.Command.{Command}
use Rattle.clap.specs.declared.builder.command.Command.TheOpen.{Command-F}
use Rattle.command_line.specs.Command.{with_options}
use Rattle.command_line.proofs.command.slif_command.Goals as goal

abbrev settings : App → App
settings app = record app { top = record app.top { no_binary_name = true; disable_help_flag = true } }

abbrev without_help : Command-F Command → Command-F Command
without_help fields = record fields { disable_help_flag = true }

pub returns : goal.returns
returns c =
    let base : app_of c.disable_help_flag.result ≡ settings (new_app (codes "slif")) =
    ap app_of_fields (c.disable_help_flag.ensures ∙ ap without_help c.no_binary_name.ensures)
    ∙ ap settings c.new.ensures.app in
    let options = c.in_ok-with_options.ensures ∙ ap with_options base in
    let stats = c.in_ok-arg.ensures.shape c.flag.ensures.local ∙ ap₂ with_rule options c.flag.ensures.rule in
    IfOk-weaker c.arg-2.result _ _ (λ command h. h.shape c.operand.ensures.local ∙ ap₂ with_rule stats c.operand.ensures.rule) c.arg-2.ensures
