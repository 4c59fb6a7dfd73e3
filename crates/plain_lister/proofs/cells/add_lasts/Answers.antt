use Rattle.std.proofs.Common.{get_or, arith}
use Rattle.grammar_model.specs.Trees.{Child}
use Rattle.plain_lister.specs.Adding.{at, as_prefix}
use Rattle.plain_lister.proofs.Arena.{keeps_all, adds_nothing, adds_cell, adds_whole_map}
use Rattle.plain_lister.proofs.cells.add_lasts.Goals as goal

pub loop-last-init : goal.loop-last-init
loop-last-init c = adds_nothing c.args.cells.now.items c.args.cells.now.items c.args.out.now.items (keeps_all c.args.cells.now.items) c.requires.out

pub loop-last-preserved : goal.loop-last-preserved
loop-last-preserved c =
    let k = get_or c.args.lasts.now c.loop-last.last-index 0 in
    let same = c.loop-last.invariant.keeps.same k (c.requires.lasts c.loop-last.last-index 0 (omega arith)) in
    adds_cell c.args.cells.now.items c.loop-last.cells.items c.add_cell.new.cells.items c.args.out.now.items c.loop-last.out.items c.add_cell.new.out.items
    (λ k. as_prefix (Child ((at c.args.cells.now.items c.args.prefix).prefix) ((at c.args.cells.now.items k).tree))) c.args.lasts.now c.loop-last.last-index _ (omega arith) (λ z. as_prefix (Child ((c.loop-last.invariant.keeps.same c.args.prefix c.requires.prefix z).prefix) ((same z).tree))) c.loop-last.invariant c.in_ok-add_cell.ensures

pub returns : goal.returns
returns c =
    adds_whole_map c.args.cells.now.items c.loop-last.cells.items c.args.out.now.items c.loop-last.out.items
    (λ k. as_prefix (Child ((at c.args.cells.now.items c.args.prefix).prefix) ((at c.args.cells.now.items k).tree))) c.args.lasts.now c.loop-last.last-index (omega arith) c.loop-last.invariant
