use Rattle.std.proofs.Common.{◌≡◌, ◌<◌, ◌^◌, take}
use Rattle.language_model.specs.Classes.{hex_number}
use Rattle.char_class.proofs.escape.hex_number.Given as goal

abbrev pub invariant-loop-c : goal.invariant-loop-c
invariant-loop-c l = (l.number ≡ hex_number (take l.c-index l.digits)) × (l.number < 16 ^ l.c-index)
