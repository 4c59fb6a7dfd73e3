use Rattle.std.proofs.Common.{◌≡◌, ℕ, List, length, refl, sym, ap, ◌∙◌, subst, eqb, arith}
use Rattle.std.specs.List.{slice_split}
use Rattle.std.proofs.lemmas.Iterator.Splits.{YieldsList-from_str_split}
use Rattle.tree_cursor.proofs.Spelled.{Yields, turned, ended, no_step, takes_wrong, leaves_other, spelled, none_read, one_read, has_room}
use Rattle.tree_cursor.proofs.Refused.{passed_on}
use Rattle.tree_cursor.specs.declared.refusal.CursorRefusal.TheVariants.{BadCursor}
use Rattle.grammar_model.specs.Trees.{Tree}
use Rattle.grammar_core.specs.Steps.{step_of}
use Rattle.cursor_model.specs.Laid.{Spells}
use Rattle.tree_cursor.proofs.reading.read_cursor.Goals as goal

pub loop-piece-init : goal.loop-piece-init
loop-piece-init c = (
  slice_split (λ b. eqb b 46) c.args.text.now,
  subst (λ s. Yields s (slice_split (λ b. eqb b 46) c.args.text.now)) (sym c.into_iter-piece-iterator.ensures.into_iter_gives)
      (YieldsList-from_str_split 46 c.args.text.now (omega arith) c.split-piece-items.ensures.text c.split-piece-items.ensures.has_more c.split-piece-items.ensures.pattern).runs,
  none_read c.args.text.now c.new-stack.result c.new-steps.result.items c.new-stack.ensures.starts c.new-stack.ensures.end c.new-steps.ensures.items,
)

pub returns-in_default-clause-bad : goal.returns-in_default-clause-bad
returns-in_default-clause-bad c = λ e tree spells.
    let i = c.loop-piece.invariant in
    let t = turned c.loop-piece.piece-iterator c.next.new.self c.next.result c.in-Some.piece i.0 i.1 c.next.ensures.steps c.in-Some.is in
    no_step c.args.text.now c.loop-piece.stack c.loop-piece.steps.items c.in-Some.piece.now t.rest i.0 t.is i.2 tree spells (c.in_default.ensures.none refl)

pub put-requires : goal.put-requires
put-requires c =
    let i = c.loop-piece.invariant in
    let t = turned c.loop-piece.piece-iterator c.next.new.self c.next.result c.in-Some.piece i.0 i.1 c.next.ensures.steps c.in-Some.is in
    record { room = has_room c.args.text.now c.loop-piece.stack c.loop-piece.steps.items c.in-Some.piece.now t.rest i.0 t.is i.2 (omega (arith, c.if-text-gt-LONGEST_CURSOR.false)) }

pub returns-in_err-put-clause-bad : goal.returns-in_err-put-clause-bad
returns-in_err-put-clause-bad c =
    let i = c.loop-piece.invariant in
    let t = turned c.loop-piece.piece-iterator c.next.new.self c.next.result c.in-Some.piece i.0 i.1 c.next.ensures.steps c.in-Some.is in
    let wrong = takes_wrong c.args.text.now c.loop-piece.stack c.loop-piece.steps.items c.in-Some.piece.now t.rest i.0 t.is i.2 in
    passed_on c.from_residual.result c.in_err-put.field-0.0 (λ refusal. refusal ≡ BadCursor → (tree : Tree) → Spells c.args.text.now tree → ⊥) c.from_residual.ensures.1
    (λ is tree spells. wrong tree spells (step_of c.in-Some-step_told.step) c.in-Some-step_told.ensures.is (c.in_err-put.ensures.bad is))

pub loop-piece-preserved : goal.loop-piece-preserved
loop-piece-preserved c =
    let i = c.loop-piece.invariant in
    let t = turned c.loop-piece.piece-iterator c.next.new.self c.next.result c.in-Some.piece i.0 i.1 c.next.ensures.steps c.in-Some.is in (
      t.rest,
      t.yields,
      one_read c.args.text.now c.loop-piece.stack c.put.new.self c.loop-piece.steps.items c.push.new.self.items c.in-Some-step_told.step c.in_ok-put.field-0 c.in-Some.piece.now t.rest i.0 t.is i.2
          c.in-Some-step_told.ensures.is c.in-Some-step_told.ensures.small c.in_ok-put.ensures.done c.in_ok-put.ensures.end c.in_ok-push.ensures.items,
    )

pub returns-then-as_slice-ne1-clause-bad : goal.returns-then-as_slice-ne1-clause-bad
returns-then-as_slice-ne1-clause-bad c = λ e tree spells.
    let i = c.loop-piece.invariant in
    let none = ended c.loop-piece.piece-iterator c.next.new.self c.next.result i.0 i.1 c.next.ensures.steps c.in-None.is in
    let one = leaves_other c.args.text.now c.loop-piece.stack c.loop-piece.steps.items i.0 none i.2 tree spells in
    c.if-as_slice-ne1.true (ap (λ (l : List ℕ). length l) c.as_slice.ensures.value ∙ one)

pub returns-clause-ok : goal.returns-clause-ok
returns-clause-ok c =
    let i = c.loop-piece.invariant in
    let none = ended c.loop-piece.piece-iterator c.next.new.self c.next.result i.0 i.1 c.next.ensures.steps c.in-None.is in
    spelled c.args.text.now c.loop-piece.stack c.loop-piece.steps.items i.0 none i.2 (omega (arith, c.if-text-gt-LONGEST_CURSOR.false)) (ap (λ (l : List ℕ). length l) (sym c.as_slice.ensures.value) ∙ c.if-as_slice-ne1.false)
