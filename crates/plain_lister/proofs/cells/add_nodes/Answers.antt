use Rattle.std.proofs.Common.{get_or, ap, arith}
use Rattle.grammar_model.specs.Trees.{Node}
use Rattle.plain_lister.specs.Arena.{Meant}
use Rattle.plain_lister.specs.Adding.{at, as_tree}
use Rattle.plain_lister.proofs.Arena.{keeps_all, adds_nothing, adds_cell, adds_whole_map}
use Rattle.plain_lister.proofs.cells.add_nodes.Goals as goal

pub loop-prefix-init : goal.loop-prefix-init
loop-prefix-init c = adds_nothing c.args.cells.now.items c.args.cells.now.items c.args.out.now.items (keeps_all c.args.cells.now.items) c.requires.out

pub loop-prefix-preserved : goal.loop-prefix-preserved
loop-prefix-preserved c =
    let k = get_or c.args.prefixes.now c.loop-prefix.prefix-index 0 in
    let same = c.loop-prefix.invariant.keeps.same k (c.requires.prefixes c.loop-prefix.prefix-index 0 (omega arith)) in
    adds_cell c.args.cells.now.items c.loop-prefix.cells.items c.add_cell.new.cells.items c.args.out.now.items c.loop-prefix.out.items c.add_cell.new.out.items
    (λ k. as_tree (Node c.args.rule ((at c.args.cells.now.items k).prefix) c.args.from c.args.to)) c.args.prefixes.now c.loop-prefix.prefix-index _ (omega arith) (ap (λ (m : Meant). as_tree (Node c.args.rule m.prefix c.args.from c.args.to)) same) c.loop-prefix.invariant c.in_ok-add_cell.ensures

pub returns : goal.returns
returns c =
    adds_whole_map c.args.cells.now.items c.loop-prefix.cells.items c.args.out.now.items c.loop-prefix.out.items
    (λ k. as_tree (Node c.args.rule ((at c.args.cells.now.items k).prefix) c.args.from c.args.to)) c.args.prefixes.now c.loop-prefix.prefix-index (omega arith) c.loop-prefix.invariant
