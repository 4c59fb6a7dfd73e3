use Rattle.std.proofs.Common.{◌≡◌, ◌+◌, length, take, map}
use Rattle.glades.specs.Links.{link_of, nodes_noted}
use Rattle.glades.proofs.links.find_links.Given as goal

abbrev pub invariant-loop-node : goal.invariant-loop-node
invariant-loop-node g l = record {
  links : l.found.links.items ≡ map (link_of l.forest) (take l.node l.forest.nodes);
  notes : l.found.notes.items ≡ nodes_noted (take l.node l.forest.nodes) l.initial.found.notes.items;
  long : length l.found.notes.items ≡ length l.forest.nodes;
  counted : l.steps ≡ l.initial.steps + l.node;
}
