use Rattle.std.proofs.Common.{◌<◌, length}
use Rattle.bocage.specs.Readers.{node_at}
use Rattle.glade_laws.specs.Walks.{HasSecond}
use Rattle.glade_laws.proofs.Falling.{to_walk}
use Rattle.glades.specs.Links.{AreKnown}
use Rattle.glades.proofs.seconds.note.Given as goal

abbrev pub invariant-walk : goal.invariant-walk
invariant-walk l = record {
  within : l.at < length l.forest.nodes;
  known : AreKnown l.forest l.seconds;
  second : HasSecond l.forest l.at l.second;
}

abbrev pub decreases-walk : goal.decreases-walk
decreases-walk l = to_walk l.forest (node_at l.forest l.at).key
