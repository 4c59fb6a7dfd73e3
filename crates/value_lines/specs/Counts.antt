-- The numbers of a reading, as a program holds them.
use Rattle.run_model.specs.Numbers.{Numbers}
use Rattle.bocage.specs.declared.forest.Stats.{Stats}

abbrev pub numbers_of : Stats → Numbers
numbers_of s = record { tokens = s.tokens; kept = s.kept; nodes = s.nodes; expanded = s.expanded }
