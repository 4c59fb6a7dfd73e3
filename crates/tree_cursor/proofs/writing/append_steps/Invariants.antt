use Rattle.std.proofs.Common.{◌≡◌, ◌++◌, map, take}
use Rattle.grammar_core.specs.Steps.{step_of}
use Rattle.cursor_model.specs.Cursor.{cursor_text}
use Rattle.value_text.specs.Parts.{IsExtended}
use Rattle.tree_cursor.proofs.writing.append_steps.Given as goal

abbrev pub invariant-loop-k : goal.invariant-loop-k
invariant-loop-k l = (l.out.items ≡ l.initial.out.items ++ cursor_text (map step_of (take l.k l.list))) × IsExtended l.initial.out.items l.out.items
