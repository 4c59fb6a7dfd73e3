use Rattle.plain_lister.proofs.Held.{sound_none}
use Rattle.plain_lister.proofs.trees_in_cells.Goals as goal

pub returns : goal.returns
returns c = c.in_ok-trees.ensures

pub trees_of_start-requires-clause-sound : goal.trees_of_start-requires-clause-sound
trees_of_start-requires-clause-sound c = sound_none c.args.w.now c.args.input.now (record { cells = c.new.result; lists = c.new-2.result; memo = c.new-3.result }) c.new-3.ensures.empty
