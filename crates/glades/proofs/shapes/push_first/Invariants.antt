use Rattle.std.proofs.Common.{◌≡◌, ◌<◌, ◌++◌, ℕ, List, length}
use Rattle.std.specs.Prelude.{reverse}
use Rattle.bocage.specs.Readers.{node_at}
use Rattle.glade_laws.specs.Walks.{IsFirst}
use Rattle.glade_laws.proofs.Falling.{to_walk}
use Rattle.glades.proofs.shapes.push_first.Given as goal

abbrev pub invariant-walk : goal.invariant-walk
invariant-walk l = record {
  within : l.at < length l.forest.nodes;
  back : (w : List ℕ) × (l.back.items ≡ l.initial.back.items ++ w) × ((s : List ℕ) → IsFirst l.forest l.at s → IsFirst l.forest l.node (s ++ reverse w));
}

abbrev pub decreases-walk : goal.decreases-walk
decreases-walk l = to_walk l.forest (node_at l.forest l.at).key
