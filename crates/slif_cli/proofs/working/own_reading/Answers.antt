use Rattle.std.proofs.Common.{[]}
use Rattle.text_reading.specs.Parts.{IsStopText}
use Rattle.slif_cli.proofs.Own.{input_memory, own_few, own_read}
use Rattle.slif_cli.proofs.working.own_reading.Goals as goal

pub read_text-requires : goal.read_text-requires
read_text-requires g c = own_few c.args.size c.requires.size c.args.chars.now c.requires.chars

pub no_memory-requires : goal.no_memory-requires
no_memory-requires g c =
    input_memory (IsStopText c.args.prepared.now [] c.args.chars.now)
    (own_read c.args.size c.requires.size c.args.prepared.now c.requires.grammar c.args.chars.now c.requires.chars) c.in-Err.refusal c.in-Err.ensures.refused
