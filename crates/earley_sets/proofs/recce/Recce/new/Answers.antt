use Rattle.std.proofs.Common.{◌++◌, ◌∷◌, [], ◌∙◌, Bool, false, true≢false, List, slice_get, ap, sym, subst}
use Rattle.finite_sets.proofs.Lists.{got_at}
use Rattle.grammar_model.specs.declared.Edge.{Edge as HeldEdge}
use Rattle.grammar_model.specs.Derives.{Held}
use Rattle.recognizer_model.specs.Counts.{IsListOf}
use Rattle.recognizer_model.specs.FlatForm.{FlatEdges}
use Rattle.recognizer_model.specs.Leo.{InReduced}
use Rattle.expected_terminals.proofs.Expecting.{no_notes, one_row}
use Rattle.earley_sets.proofs.Recognizing.{first_kept, top_is_top}
use Rattle.earley_sets.proofs.Twice.{first_notes}
use Rattle.earley_sets.proofs.recce.Recce.new.Goals as goal

pub first_rows-requires-clause-top : goal.first_rows-requires-clause-top
first_rows-requires-clause-top c = top_is_top c.args.flat.now c.args.start c.top-top.result c.top-top.ensures.flat c.requires (sym (got_at c.args.flat.now.tops c.args.start c.top-top.result 0 (sym c.top-top.ensures.value)).1)

pub invariant_of-result : goal.invariant_of-result
invariant_of-result c =
    let (kept, rows, indexed, exact) = c.in_ok-rows.ensures.ok in (
      first_kept c.args.flat.now c.args.start c.new-edges.result c.in_ok-rows.rows.sets c.top-top.result kept c.new-memo.result c.new-edges.ensures rows c.top-top.ensures.flat c.requires
          (sym (got_at c.args.flat.now.tops c.args.start c.top-top.result 0 (sym c.top-top.ensures.value)).1) indexed
          (subst (λ (l : List HeldEdge). IsListOf (InReduced c.args.flat.now (FlatEdges c.args.flat.now (Held l)) c.top-top.result 0) kept) (sym c.new-edges.ensures) exact) c.new-memo.ensures,
      c.in_ok-heads.ensures,
      c.in_ok-rows.ensures.flat,
      c.in_ok-rows.ensures.lists,
      c.expect_row.ensures,
      first_notes c.args.flat.now c.in_ok-rows.rows.sets kept c.push.new.self.items rows false
          (ap (λ (l : List Bool). slice_get l 0) (c.in_ok-push.ensures.items ∙ ap (λ (l : List Bool). l ++ false ∷ []) c.new-hiding.ensures.items)) (λ t. true≢false (sym t)),
    )

pub expect_row-requires-clause-flat : goal.expect_row-requires-clause-flat
expect_row-requires-clause-flat c = c.in_ok-rows.ensures.flat

pub expect_row-requires-clause-last : goal.expect_row-requires-clause-last
expect_row-requires-clause-last c = let (row, one, _, _) = c.in_ok-rows.ensures.ok in one_row c.in_ok-rows.rows.sets row one

pub expect_row-requires-clause-notes : goal.expect_row-requires-clause-notes
expect_row-requires-clause-notes c = no_notes c.args.flat.now c.in_ok-rows.rows.sets c.in_ok-expected.expected.lists c.in_ok-expected.expected.notes.items c.in_ok-expected.ensures.notes
