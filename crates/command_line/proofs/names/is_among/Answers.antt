use Rattle.std.proofs.Common.{◌∙◌}
use Rattle.command_line.proofs.Named.{named}
use Rattle.command_line.proofs.names.is_among.Goals as goal

pub returns : goal.returns
returns c = c.stands_in.ensures ∙ named c.args.names.now c.args.name.now
