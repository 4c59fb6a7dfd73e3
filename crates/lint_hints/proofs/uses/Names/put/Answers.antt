use Rattle.lint_hints.proofs.Used.{put_is}
use Rattle.lint_hints.proofs.uses.Names.put.Goals as goal

pub returns : goal.returns
returns c = put_is c.args.name.now c.args.self.now.used c.insert.new.self c.in_ok-insert.ensures.updates
