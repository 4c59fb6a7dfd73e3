use Rattle.std.proofs.Common.{◌≡◌, map, length, sym, ap, ◌∙◌, arith}
use Rattle.std.proofs.lemmas.Grind.{common_steps}
use Rattle.std.proofs.lemmas.Result.{IfOk-weaker}
use Rattle.grammar_model.specs.Grammar.{slot_of}
use Rattle.plain_lister.specs.Arena.{tree_at}
use Rattle.plain_lister.specs.Adding.{at, as_tree}
use Rattle.plain_lister.specs.Table.{listed}
use Rattle.plain_lister.proofs.Building.{told_read, trees_told, none_over_nothing}
use Rattle.plain_lister.proofs.trees_of_start.Goals as goal

pub returns-then-is_empty : goal.returns-then-is_empty
returns-then-is_empty c =
    let start = c.start-start.result in
    let none : length c.args.input.now ≡ 0 = grind (arith, common_steps) in
    (start, c.start-start.ensures, ap (map (tree_at c.args.store.now.cells.items)) c.new.ensures.items ∙ sym (none_over_nothing c.args.w.now c.args.input.now (slot_of start) none))

pub returns : goal.returns
returns c =
    let g = c.args.w.now in
    let input = c.args.input.now in
    let s = c.list_at.new.store in
    let start = c.start-start.result in
    let told = told_read g input s c.in_ok-k.k c.start.inside.0 0 0 (length input) c.index.result.now c.as_slice.result.now c.in_ok-k.ensures.holds c.index.ensures c.as_slice.ensures in
    IfOk-weaker c.copied.result _ _
    (λ trees same. (
      start,
      c.start-start.ensures,
      trees_told s.cells.items trees.items (listed g input (slot_of start) 0 (length input))
          (ap (map (at s.cells.items)) same ∙ told ∙ ap (λ z. map as_tree (listed g input (slot_of z) 0 (length input))) c.start.view_is),
    ))
    c.copied.ensures
