use Rattle.lint_hints.proofs.Rounds.{put_updates}
use Rattle.lint_hints.proofs.nullable.Nullable.put.Goals as goal

pub returns : goal.returns
returns c = put_updates c.args.name.now c.args.cause c.args.self.now (record { causes = c.insert.new.self }) c.in_ok-insert.ensures.updates
