use Rattle.std.proofs.Common.{map, take}
use Rattle.grammar_model.specs.Trees.{Node}
use Rattle.plain_lister.specs.Adding.{at, as_tree, Adds}
use Rattle.plain_lister.proofs.cells.add_nodes.Given as goal

abbrev pub invariant-loop-prefix : goal.invariant-loop-prefix
invariant-loop-prefix l = Adds l.initial.cells.items l.cells.items l.initial.out.items l.out.items (map (λ k. as_tree (Node l.rule ((at l.initial.cells.items k).prefix) l.from l.to)) (take l.prefix-index l.prefixes))
