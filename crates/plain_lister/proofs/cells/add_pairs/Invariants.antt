use Rattle.std.proofs.Common.{map, take}
use Rattle.std.specs.List.{flat_map}
use Rattle.grammar_model.specs.Trees.{Child}
use Rattle.plain_lister.specs.Adding.{at, as_prefix, Adds}
use Rattle.plain_lister.proofs.cells.add_pairs.Given as goal

abbrev pub invariant-loop-prefix : goal.invariant-loop-prefix
invariant-loop-prefix l = Adds l.initial.cells.items l.cells.items l.initial.out.items l.out.items (flat_map (λ j. map (λ k. as_prefix (Child ((at l.initial.cells.items j).prefix) ((at l.initial.cells.items k).tree))) l.lasts) (take l.prefix-index l.prefixes))
