use Rattle.threads.proofs.Goals.{not_none}
use Rattle.threads.proofs.scan.is_read_here.Goals as goal

pub returns-then-is_none : goal.returns-then-is_none
returns-then-is_none c never x none e reads = never (c.is_read.ensures.read.1 (x, e, reads))

pub returns-else-is_none : goal.returns-else-is_none
returns-else-is_none c never x none e reads = absurd (not_none c.args.thread.label c.is_none.result c.is_none.ensures c.if-is_none.false none)
