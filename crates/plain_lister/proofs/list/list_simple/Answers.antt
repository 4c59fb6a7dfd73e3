use Rattle.std.proofs.Common.{◌∙◌}
use Rattle.finite_sets.proofs.Lists.{map_same}
use Rattle.grammar_model.specs.Characters.{tree_line}
use Rattle.plain_lister.specs.Listing.{trees_of, line_of}
use Rattle.plain_lister.proofs.list.list_simple.Goals as goal

pub returns : goal.returns
returns c =
    let d = c.in_ok-derivations.derivations in
    (trees_of d, c.in_ok-derivations.ensures.trees, c.in_ok-list.ensures ∙ map_same (line_of d) (tree_line c.args.w.now c.args.input.now) c.in_ok-derivations.ensures.lines (trees_of d))
