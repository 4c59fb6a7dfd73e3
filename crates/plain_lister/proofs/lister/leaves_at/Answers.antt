use Rattle.std.proofs.Common.{◌≡◌, suc, [], ◌∷◌, map, true, refl, sym, ap, ◌∙◌, arith}
use Rattle.grammar_model.specs.Trees.{Leaf}
use Rattle.plain_lister.specs.Adding.{as_tree}
use Rattle.plain_lister.specs.declared.store.Store.{Store}
use Rattle.plain_lister.proofs.Building.{built_none, built_cells, built_same, leaf_value, quoted_is}
use Rattle.plain_lister.proofs.lister.leaves_at.Goals as goal

abbrev after : (c : goal.In_ok-add_cell) → Store
after c = record { cells = c.add_cell.new.cells; lists = c.args.store.now.lists; memo = c.args.store.now.memo }

pub returns : goal.returns
returns c =
    let g = c.args.w.now in
    let input = c.args.input.now in
    let x = c.args.x in
    let p = c.args.p in
    let q = c.args.q in
    let near : q ≡ suc p = omega arith in
    let value = leaf_value g input x p q true c.requires.terminal c.requires.spans (quoted_is g input x p q true near (sym c.if-not-is_quoted_at.ensures)) in
    built_same g input c.args.store.now (after c) c.add_cell.new.out.items _ _
    (ap (λ z. as_tree (Leaf x p z) ∷ []) (sym near) ∙ sym (ap (map as_tree) value))
    (built_cells g input c.args.store.now c.args.store.now (after c) c.new-out.result.items c.add_cell.new.out.items [] _ refl refl
    (built_none g input c.args.store.now c.new-out.result.items [] c.requires.sound c.new-out.ensures.items refl) c.in_ok-add_cell.ensures)
