use Rattle.std.proofs.Common.{ap, chars, ◌∙◌}
use Rattle.text_reading.specs.Parts.{IsBrokenText}
use Rattle.slif_cli.proofs.Own.{input_memory, own_utf8}
use Rattle.slif_cli.proofs.working.own_chars.Goals as goal

pub no_memory-requires : goal.no_memory-requires
no_memory-requires c =
    input_memory (IsBrokenText c.in_ok-bytes.bytes.items) (own_utf8 c.args.size c.requires c.in_ok-bytes.bytes.items c.in_ok-bytes.ensures) c.in-Err.refusal c.in-Err.ensures.refused

pub returns-in-Ok : goal.returns-in-Ok
returns-in-Ok c = c.in-Ok.ensures.ok ∙ ap chars c.in_ok-bytes.ensures
