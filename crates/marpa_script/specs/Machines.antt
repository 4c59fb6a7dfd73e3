-- The machines that calls stand for, and what a line with a command is answered.
use Rattle.std.specs.Prelude.{◌≡◌, ◌≤◌, List, [], Option, None, Some, ℕ}
use Rattle.grammar_model.specs.Grammar.{Grammar}
use Rattle.grammar_model.specs.Checked.{IsChecked}
use Rattle.recognizer_model.specs.FlatForm.{IsFlatOf}
use Rattle.earley_sets.specs.Recognizer.{Recognizer, earleme_of}
use Rattle.script_model.specs.Commands.{Command, Building, Reading, IsCommand}
use Rattle.script_model.specs.Machine.{Machine, that_reads}
use Rattle.script_model.specs.Replies.{Reply, Replies, last_place}

-- the machine that builds this grammar
abbrev pub building : Grammar → Machine
building g = record { grammar = g; phase = Building; edges = []; place = 0 }

-- it builds on, or reads where there is a flat grammar to read by
abbrev pub after_precompute : {A : Type 0} → Grammar → Option A → Machine
after_precompute g None = building g
after_precompute g (Some flat) = that_reads (building g)

-- the machine that reads by this grammar, and has the recognizer's edges and place
abbrev pub reading : Grammar → Recognizer → Machine
reading g r = record { grammar = g; phase = Reading; edges = r.edges; place = earleme_of r }

-- the recognizer reads by the flat grammar of a checked one, from its start, and is at a place of a script
pub record ReadsBy (g : Grammar) (r : Recognizer) : Type 0 where
  pub checked : IsChecked g
  pub flat : IsFlatOf r.flat g
  pub start : r.start ≡ 0
  pub within : earleme_of r ≤ last_place

-- the reply to any line with this command
abbrev pub LineReplies : Machine → Command → Reply → Type 0
LineReplies m command reply = (line : List ℕ) → IsCommand line command → Replies m line reply
