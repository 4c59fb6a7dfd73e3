use Rattle.std.proofs.Common.{◌≡◌, ap, ◌∙◌, sym, ◌++◌, map, arith, refl}
use Rattle.std.specs.Prelude.{filter}
use Rattle.std.specs.declared.vec.Vec.{Vec}
use Rattle.std.specs.declared.alloc.Global.{Global}
use Rattle.grammar_model.specs.Simple.{numbers}
use Rattle.recognizer_model.specs.FlatForm.{IsUsedSlot}
use Rattle.flat_rules.specs.declared.numbering.SlotKey.{SlotKey}
use Rattle.flat_rules.specs.Tables.{told_slot, slot_at}
use Rattle.flat_rules.proofs.Listing.{same_test, list_step, list_skip}
use Rattle.flat_rules.proofs.numbering.list_levels.Goals as goal
use Rattle.flat_rules.proofs.numbering.list_levels.Goals.{then-is_used+in_ok-push, else-is_used}

pub loop-level-preserved : goal.loop-level-preserved
loop-level-preserved c = λ d.
    let same = same_test c.is_used.result (d.used (slot_at c.args.s c.loop-level.level)) (IsUsedSlot c.args.c.now (slot_at c.args.s c.loop-level.level)) c.is_used.ensures (d.used_is (slot_at c.args.s c.loop-level.level)) in
    elim c.if-is_used.branch [
      | then-is_used+in_ok-push w ↦ list_step c.loop-level.slots.items c.if-is_used.slots.items (map told_slot c.args.slots.now.items) (slot_at c.args.s) (λ k. d.used (slot_at c.args.s k)) c.loop-level.level (record { symbol = c.args.s; level = c.loop-level.level })
          refl (c.loop-level.invariant d) (ap (λ (v : Vec SlotKey Global). v.items) w.slots-is ∙ w.in_ok-push.ensures.items) (sym same ∙ w.if-is_used.true)
      | else-is_used w ↦ ap (λ (v : Vec SlotKey Global). map told_slot v.items) w.slots-is
          ∙ list_skip (map told_slot c.loop-level.slots.items) (map told_slot c.args.slots.now.items) (slot_at c.args.s) (λ k. d.used (slot_at c.args.s k)) c.loop-level.level (c.loop-level.invariant d) (sym same ∙ w.if-is_used.false)
    ]

pub returns : goal.returns
returns c = λ d.
    let all : c.loop-level.level ≡ c.args.room = omega (arith, c.loop-level-test.false, c.loop-level.auto.level-end) in
    c.loop-level.invariant d ∙ ap (λ n. map told_slot c.args.slots.now.items ++ map (slot_at c.args.s) (filter (λ k. d.used (slot_at c.args.s k)) (numbers n))) all
