-- A node that is at a place.
use Rattle.std.proofs.Common.{◌≡◌, ℕ, List, length, refl, sym, Some, slice_get, Bor}
use Rattle.std.specs.Slice.{IsItemAt}
use Rattle.std.proofs.lemmas.Option.{slice_get_read}
use Rattle.tree_text.specs.declared.nodes.Node.{Node}

pub found : (nodes : List Node) (at : ℕ) (node : Bor Node) → IsItemAt nodes at (Some node) → Some node.now ≡ slice_get nodes at
found nodes at node is = sym (slice_get_read nodes (length nodes) at node.now refl is.3.0 is.1)
