use Rattle.script_trees.proofs.Holding.{one_more_held}
use Rattle.script_trees.proofs.lines.TreeLines.nulled.Goals as goal

pub returns : goal.returns
returns c = one_more_held _ _ _ _ _ _ c.in_ok-id.ensures c.requires c.in_ok-push.ensures.items
