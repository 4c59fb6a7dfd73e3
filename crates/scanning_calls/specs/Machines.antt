-- The machine that a scanning stands for: that of scripts.
use Rattle.std.specs.Prelude.{◌≡◌, ℕ, [], Option, Some, None, ⊤}
use Rattle.grammar_model.specs.Grammar.{Grammar}
use Rattle.grammar_model.specs.Checked.{IsChecked}
use Rattle.recognizer_model.specs.FlatForm.{IsFlatOf}
use Rattle.earley_sets.specs.Recognizer.{Recognizer}
use Rattle.script_model.specs.Machine.{Machine}
use Rattle.marpa_script.specs.Machines.{building, reading}

-- the grammar is built, or read by where there is a recognizer
abbrev pub machine_of : Grammar → Option Recognizer → Machine
machine_of g None = building g
machine_of g (Some r) = reading g r

-- the recognizer reads by the flat grammar of a checked one, from its start
pub record ReadsOver (g : Grammar) (r : Recognizer) : Type 0 where
  pub checked : IsChecked g
  pub flat : IsFlatOf r.flat g
  pub start : r.start ≡ 0

abbrev pub IsSound : Grammar → Option Recognizer → Type 0
IsSound g None = ⊤
IsSound g (Some r) = ReadsOver g r

-- the same at place 0, without tokens
abbrev pub begun_again : Machine → Machine
begun_again m = record { grammar = m.grammar; phase = m.phase; edges = []; place = 0 }
