use Rattle.std.proofs.Common.{◌≡◌, ◌++◌, map}
use Rattle.std.specs.Prelude.{◌&&◌, filter}
use Rattle.grammar_model.specs.Grammar.{slot_of}
use Rattle.grammar_model.specs.Simple.{is_terminal, numbers}
use Rattle.flat_model.specs.Flatten.{Decided}
use Rattle.flat_rules.specs.Tables.{told_slot}
use Rattle.flat_rules.proofs.numbering.list_terminals.Given as goal

abbrev pub invariant-loop-s : goal.invariant-loop-s
invariant-loop-s l = (d : Decided l.c) → map told_slot l.slots.items ≡ map told_slot l.initial.slots.items ++ map slot_of (filter (λ s. is_terminal l.c s && d.used (slot_of s)) (numbers l.s))
