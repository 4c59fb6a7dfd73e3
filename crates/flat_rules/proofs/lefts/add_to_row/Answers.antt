use Rattle.flat_rules.proofs.Rows.{pushed_row}
use Rattle.flat_rules.proofs.lefts.add_to_row.Goals as goal

pub returns : goal.returns
returns c = pushed_row c.args.rows.now.items c.args.s c.args.rule c.index_mut.result.now c.push.new.self c.push.result c.requires c.index_mut.ensures.value c.push.ensures.items
