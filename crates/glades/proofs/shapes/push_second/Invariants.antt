use Rattle.std.proofs.Common.{◌≡◌, ◌<◌, ◌++◌, ℕ, List, length, true}
use Rattle.std.specs.Prelude.{reverse}
use Rattle.bocage.specs.Readers.{node_at}
use Rattle.glade_laws.specs.Walks.{HasSecond, IsSecond}
use Rattle.glade_laws.proofs.Falling.{to_walk}
use Rattle.glades.specs.Links.{AreKnown}
use Rattle.glades.proofs.shapes.push_second.Given as goal

abbrev pub invariant-walk : goal.invariant-walk
invariant-walk l = record {
  within : l.at < length l.forest.nodes;
  known : AreKnown l.forest l.seconds;
  second : HasSecond l.forest l.at true;
  back : (w : List ℕ) × (l.back.items ≡ l.initial.back.items ++ w) ×
      ((s o : List ℕ) → IsSecond l.forest l.at s o → (t : List ℕ) × IsSecond l.forest l.node t (o ++ reverse w));
}

abbrev pub decreases-walk : goal.decreases-walk
decreases-walk l = to_walk l.forest (node_at l.forest l.at).key
