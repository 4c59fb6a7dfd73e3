use Rattle.std.proofs.Common.{◌≡◌, ℕ, ◌<◌, ◌≤◌, Some, map, length, slice_get}
use Rattle.recognizer_model.specs.declared.NodeKey.{NodeKey}
use Rattle.bocage.specs.Ends.{Goes, HasRow}
use Rattle.bocage.proofs.ends.visit_new.Given as goal

abbrev pub invariant-loop-node : goal.invariant-loop-node
invariant-loop-node l = record {
  few : l.node ≤ length l.found.keys.keys;
  goes : Goes l.known l.initial.found l.found (map (λ r. r.now) l.initial.table.items) (map (λ r. r.now) l.table.items);
  have : (n : ℕ) (key : NodeKey) → l.first ≤ n → n < l.node → slice_get l.found.keys.keys n ≡ Some key → key.end ≡ l.known.end →
      HasRow l.known.written.now l.known.ranking l.known.recce.now l.found.keys.keys l.found.wholes.items (map (λ r. r.now) l.table.items) n key;
}
