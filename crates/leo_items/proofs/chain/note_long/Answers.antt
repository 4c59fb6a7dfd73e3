use Rattle.leo_items.proofs.Chains.{no_more}
use Rattle.leo_items.proofs.chain.note_long.Goals as goal

pub returns-then-way-lt-LONG-clause-memo : goal.returns-then-way-lt-LONG-clause-memo
returns-then-way-lt-LONG-clause-memo g c = no_more c.args.flat.now c.args.rows.now.sets c.args.memo.now c.requires.memo
