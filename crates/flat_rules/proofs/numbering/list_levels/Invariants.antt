use Rattle.std.proofs.Common.{◌≡◌, ◌++◌, map}
use Rattle.std.specs.Prelude.{filter}
use Rattle.grammar_model.specs.Simple.{numbers}
use Rattle.flat_model.specs.Flatten.{Decided}
use Rattle.flat_rules.specs.Tables.{told_slot, slot_at}
use Rattle.flat_rules.proofs.numbering.list_levels.Given as goal

abbrev pub invariant-loop-level : goal.invariant-loop-level
invariant-loop-level l = (d : Decided l.c) → map told_slot l.slots.items ≡ map told_slot l.initial.slots.items ++ map (slot_at l.s) (filter (λ k. d.used (slot_at l.s k)) (numbers l.level))
