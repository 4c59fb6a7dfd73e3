-- Messages without a name.
use Rattle.std.proofs.Common.{refl, sym, subst}
use Rattle.std.specs.Prelude.{codes}
use Rattle.run_model.specs.Outside.{Stream}
use Rattle.run_model.specs.Runs.{fault_line, memory_line}
use Rattle.run_model.specs.Runs.Fault.{CannotRead, CannotWrite}
use Rattle.run_model.proofs.Messages.{plain_message}
use Rattle.slif_cli.specs.Stops.{Tells}

module _ (before after : Stream) where
  pub tells_memory : Tells before after (codes "slif: out of memory\n") → Tells before after memory_line
  tells_memory told = subst (Tells before after) (sym (plain_message (codes "out of memory") refl)) told

  pub tells_read_fault : Tells before after (codes "slif: read fault\n") → Tells before after (fault_line CannotRead)
  tells_read_fault told = subst (Tells before after) (sym (plain_message (codes "read fault") refl)) told

  pub tells_write_fault : Tells before after (codes "slif: write fault\n") → Tells before after (fault_line CannotWrite)
  tells_write_fault told = subst (Tells before after) (sym (plain_message (codes "write fault") refl)) told
