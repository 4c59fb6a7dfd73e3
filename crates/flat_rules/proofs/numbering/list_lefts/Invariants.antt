use Rattle.std.proofs.Common.{◌≡◌, ◌++◌, map}
use Rattle.std.specs.List.{flat_map}
use Rattle.grammar_model.specs.Simple.{numbers}
use Rattle.flat_model.specs.Flatten.{Decided, levels_of}
use Rattle.flat_rules.specs.Tables.{told_slot, slot_at}
use Rattle.flat_rules.proofs.numbering.list_lefts.Given as goal

abbrev pub invariant-loop-s : goal.invariant-loop-s
invariant-loop-s l = (d : Decided l.c) → map told_slot l.slots.items ≡ map told_slot l.initial.slots.items ++ flat_map (λ s. map (slot_at s) (levels_of l.c d s)) (numbers l.s)
