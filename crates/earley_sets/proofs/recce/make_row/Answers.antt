use Rattle.std.proofs.Common.{arith, ◌≡◌, ◌↔◌, IsTrue, ◌⊎◌, ◌+◌, ◌∙◌, ◌++◌, ◌∷◌, [], sym, ap, subst, length, List, Contains}
use Rattle.std.specs.List.{AllPairs}
use Rattle.std.specs.Prelude.{◌≢◌}
use Rattle.recognizer_model.specs.declared.Item.{Item}
use Rattle.recognizer_model.specs.Counts.{IsListOf}
use Rattle.recognizer_model.specs.Flat.{FlatGrammar}
use Rattle.recognizer_model.specs.Leo.{InReduced}
use Rattle.recognizer_model.specs.FlatForm.{FlatEdges}
use Rattle.recognizer_model.specs.Links.{IsLink}
use Rattle.grammar_model.specs.Derives.{Held}
use Rattle.item_rows.specs.Rows.{ItemRows, shared_at, IsBegunAt}
use Rattle.earley_sets.specs.Kept.{AreItems, IsRowOf}
use Rattle.earley_sets.specs.Scanning.{AreReduced, IsKernel}
use Rattle.begun_lists.specs.Tried.{RisesWithin}
use Rattle.earley_sets.specs.Tried.{MakesKernel}
use Rattle.earley_sets.proofs.Making.{list_moved}
use Rattle.earley_sets.proofs.Splitting.{kernel_apart, row_made, set_links}
use Rattle.leo_items.specs.Hidden.{SomeStepsTwiceIn}
use Rattle.earley_sets.specs.Hiding.{OneStepsTwice}
use Rattle.earley_sets.proofs.Twice.{row_twice}
use Rattle.earley_sets.proofs.recce.make_row.Goals as goal

pub push-requires-clause-items : goal.push-requires-clause-items
push-requires-clause-items g c =
    subst (λ (f : FlatGrammar). AreItems f c.as_slice-kernel.result.now) (sym (c.find_list.ensures.kept.flat ∙ c.requires.rows.flat))
    (subst (λ (l : List Item). AreItems c.args.flat.now l) (sym c.as_slice-kernel.ensures.items) c.in_ok-twice.ensures.items)

pub push-requires-clause-once : goal.push-requires-clause-once
push-requires-clause-once g c = subst (λ (l : List Item). AllPairs (λ x y. x ≢ y) l) (sym c.as_slice-kernel.ensures.items) c.as_slice-kernel.ensures.once

pub find_list-requires-clause-items : goal.find_list-requires-clause-items
find_list-requires-clause-items g c = subst (λ (l : List Item). AreItems c.args.flat.now l) (sym c.as_slice-kernel.ensures.items) c.in_ok-twice.ensures.items

pub push-requires-clause-apart : goal.push-requires-clause-apart
push-requires-clause-apart g c item k =
    subst (λ n. ¬ IsBegunAt (shared_at c.find_list.new.rows.shared c.in_ok-begun.begun) n item) (c.len-earleme.ensures ∙ sym (ap (λ (l : List (List Item)). length l) c.find_list.ensures.kept.sets))
    (kernel_apart c.args.flat.now c.args.edges.now c.args.top c.requires.top c.requires.forward c.args.rows.now.sets c.requires.rows.are c.len-earleme.result
    (subst (AreReduced c.args.flat.now c.args.edges.now c.args.top c.args.rows.now.sets) (sym c.len-earleme.ensures) c.requires.sets)
    c.as_slice-kernel.result.now (subst (IsKernel c.args.flat.now c.args.rows.now.sets c.args.top c.len-earleme.result c.args.edges.now) (sym c.as_slice-kernel.ensures.items) c.in_ok-twice.ensures.kernel)
    (shared_at c.find_list.new.rows.shared c.in_ok-begun.begun) c.in_ok-begun.ensures.begun item k)

pub returns-clause-ok : goal.returns-clause-ok
returns-clause-ok g c =
    let (row, kind, same, lists) = c.in_ok-push.ensures.ok in
    let made = row_made c.args.flat.now c.args.edges.now c.args.top c.requires.top c.requires.forward c.args.rows.now.sets c.requires.rows.are c.len-earleme.result
    (subst (AreReduced c.args.flat.now c.args.edges.now c.args.top c.args.rows.now.sets) (sym c.len-earleme.ensures) c.requires.sets)
    c.as_slice-kernel.result.now (subst (IsKernel c.args.flat.now c.args.rows.now.sets c.args.top c.len-earleme.result c.args.edges.now) (sym c.as_slice-kernel.ensures.items) c.in_ok-twice.ensures.kernel)
    (shared_at c.find_list.new.rows.shared c.in_ok-begun.begun) c.in_ok-begun.ensures.begun row
    (subst (λ n. IsListOf (λ item. Contains c.as_slice-kernel.result.now item ⊎ IsBegunAt (shared_at c.find_list.new.rows.shared c.in_ok-begun.begun) n item) row)
    (sym (c.len-earleme.ensures ∙ sym (ap (λ (l : List (List Item)). length l) c.find_list.ensures.kept.sets))) lists) in (
      row,
      ap (λ (r : ItemRows). r.sets) same ∙ ap (λ (l : List (List Item)). l ++ row ∷ []) c.find_list.ensures.kept.sets,
      subst (λ n. IsRowOf c.args.flat.now n row) c.len-earleme.ensures made.0,
      subst (λ n. IsListOf (InReduced c.args.flat.now (FlatEdges c.args.flat.now (Held c.args.edges.now)) c.args.top n) row) c.len-earleme.ensures made.1,
    )

pub returns-clause-counted : goal.returns-clause-counted
returns-clause-counted g c =
    λ some. subst (λ n. RisesWithin (IsLink c.args.flat.now (FlatEdges c.args.flat.now (Held c.args.edges.now)) c.args.top n) (c.args.steps.now + length c.make_kernel.new.memo) (c.find_list.new.steps + length c.args.memo.now)) c.len-earleme.ensures
    (set_links c.args.flat.now c.args.edges.now c.args.top c.requires.top c.requires.forward c.args.rows.now.sets c.requires.rows.are c.len-earleme.result
    (subst (AreReduced c.args.flat.now c.args.edges.now c.args.top c.args.rows.now.sets) (sym c.len-earleme.ensures) c.requires.sets)
    c.as_slice-kernel.result.now (subst (IsKernel c.args.flat.now c.args.rows.now.sets c.args.top c.len-earleme.result c.args.edges.now) (sym c.as_slice-kernel.ensures.items) c.in_ok-twice.ensures.kernel)
    (shared_at c.find_list.new.rows.shared c.in_ok-begun.begun) c.in_ok-begun.ensures.begun
    (c.args.steps.now + length c.make_kernel.new.memo) (c.make_kernel.new.steps + length c.args.memo.now) (c.find_list.new.steps + length c.args.memo.now)
    (subst (λ (l : List Item). RisesWithin (MakesKernel c.args.flat.now c.args.rows.now.sets c.len-earleme.result c.args.edges.now l) (c.args.steps.now + length c.make_kernel.new.memo) (c.make_kernel.new.steps + length c.args.memo.now)) (sym c.as_slice-kernel.ensures.items)
    (c.in_ok-twice.ensures.counted (let e = c.len-earleme.ensures in omega (arith, e, some))))
    (list_moved c.args.flat.now c.as_slice-kernel.result.now (shared_at c.find_list.new.rows.shared c.in_ok-begun.begun) c.make_kernel.new.steps c.find_list.new.steps (length c.args.memo.now) c.in_ok-begun.ensures.tried))

pub returns-clause-twice : goal.returns-clause-twice
returns-clause-twice g c =
    let (row, kind, same, lists) = c.in_ok-push.ensures.ok in
    let at = ap (λ (l : List (List Item)). length l) c.find_list.ensures.kept.sets in
    let longer : c.push.new.self.sets ≡ c.args.rows.now.sets ++ row ∷ [] = ap (λ (r : ItemRows). r.sets) same ∙ ap (λ (l : List (List Item)). l ++ row ∷ []) c.find_list.ensures.kept.sets in
    subst (λ (l : List (List Item)). IsTrue c.in_ok-twice.twice ↔ SomeStepsTwiceIn c.args.flat.now l (length c.args.rows.now.sets) 0) (sym longer)
    (row_twice c.args.flat.now c.args.rows.now.sets row c.as_slice-kernel.result.now (shared_at c.find_list.new.rows.shared c.in_ok-begun.begun)
    (subst (λ n. IsListOf (λ item. Contains c.as_slice-kernel.result.now item ⊎ IsBegunAt (shared_at c.find_list.new.rows.shared c.in_ok-begun.begun) n item) row) at lists) c.in_ok-twice.twice
    (subst (λ n. IsTrue c.in_ok-twice.twice ↔ OneStepsTwice c.args.flat.now c.args.rows.now.sets n c.as_slice-kernel.result.now) c.len-earleme.ensures
    (subst (λ (l : List Item). IsTrue c.in_ok-twice.twice ↔ OneStepsTwice c.args.flat.now c.args.rows.now.sets c.len-earleme.result l) (sym c.as_slice-kernel.ensures.items) c.in_ok-twice.ensures.twice)))
