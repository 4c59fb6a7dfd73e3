use Rattle.std.proofs.Common.{map, get_or, arith}
use Rattle.grammar_model.specs.Trees.{Child}
use Rattle.plain_lister.specs.Adding.{at, as_prefix}
use Rattle.plain_lister.proofs.Arena.{keeps_all, adds_nothing, adds_list, adds_whole_flat_map, lasts_keep}
use Rattle.plain_lister.proofs.cells.add_pairs.Goals as goal

pub loop-prefix-init : goal.loop-prefix-init
loop-prefix-init c = adds_nothing c.args.cells.now.items c.args.cells.now.items c.args.out.now.items (keeps_all c.args.cells.now.items) c.requires.out

pub loop-prefix-preserved : goal.loop-prefix-preserved
loop-prefix-preserved c =
    let k = get_or c.args.prefixes.now c.loop-prefix.prefix-index 0 in
    let same = c.loop-prefix.invariant.keeps.same k (c.requires.prefixes c.loop-prefix.prefix-index 0 (omega arith)) in
    adds_list c.args.cells.now.items c.loop-prefix.cells.items c.add_lasts.new.cells.items c.args.out.now.items c.loop-prefix.out.items c.add_lasts.new.out.items
    (λ j. map (λ k. as_prefix (Child ((at c.args.cells.now.items j).prefix) ((at c.args.cells.now.items k).tree))) c.args.lasts.now) c.args.prefixes.now c.loop-prefix.prefix-index _ (omega arith) (lasts_keep c.args.cells.now.items c.loop-prefix.cells.items k c.args.lasts.now c.loop-prefix.invariant.keeps (c.requires.prefixes c.loop-prefix.prefix-index 0 (omega arith)) c.requires.lasts) c.loop-prefix.invariant c.in_ok-add_lasts.ensures

pub returns : goal.returns
returns c =
    adds_whole_flat_map c.args.cells.now.items c.loop-prefix.cells.items c.args.out.now.items c.loop-prefix.out.items
    (λ j. map (λ k. as_prefix (Child ((at c.args.cells.now.items j).prefix) ((at c.args.cells.now.items k).tree))) c.args.lasts.now) c.args.prefixes.now c.loop-prefix.prefix-index (omega arith) c.loop-prefix.invariant
