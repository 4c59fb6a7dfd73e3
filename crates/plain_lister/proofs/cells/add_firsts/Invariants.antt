use Rattle.std.proofs.Common.{map, take}
use Rattle.grammar_model.specs.Trees.{NoChild, Child}
use Rattle.plain_lister.specs.Adding.{at, as_prefix, Adds}
use Rattle.plain_lister.proofs.cells.add_firsts.Given as goal

abbrev pub invariant-loop-last : goal.invariant-loop-last
invariant-loop-last l = Adds l.initial.cells.items l.cells.items l.initial.out.items l.out.items (map (λ k. as_prefix (Child NoChild ((at l.initial.cells.items k).tree))) (take l.last-index l.lasts))
