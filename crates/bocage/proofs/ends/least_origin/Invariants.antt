use Rattle.std.proofs.Common.{◌≡◌, ◌⊎◌, ℕ, ◌≤◌, Some, Contains, take, slice_get}
use Rattle.recognizer_model.specs.declared.NodeKey.{NodeKey}
use Rattle.bocage.proofs.ends.least_origin.Given as goal

abbrev pub invariant-loop-node : goal.invariant-loop-node
invariant-loop-node l = record {
  nodes : (n : ℕ) (key : NodeKey) → Contains (take l.node-index l.nodes) n → slice_get l.keys.keys n ≡ Some key → l.lowest ≤ key.origin;
  bound : l.lowest ≤ l.least;
  met : (l.lowest ≡ l.least) ⊎ ((n : ℕ) × (key : NodeKey) × Contains l.nodes n × (slice_get l.keys.keys n ≡ Some key) × (key.origin ≡ l.lowest));
}
