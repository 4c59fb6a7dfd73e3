use Rattle.std.proofs.Common.{inr}
use Rattle.slif_cli.proofs.OneLine.{tells_memory}
use Rattle.slif_cli.proofs.messages.report_refusal.Goals as goal

pub returns : goal.returns
returns g c = inr (inr (c.tell.ensures.same, tells_memory _ _ c.tell.ensures.told))
