use Rattle.std.proofs.Common.{◌≡◌, ap, ◌∙◌, sym, subst, ◌++◌, map, arith, refl, length}
use Rattle.std.specs.Prelude.{filter, ◌&&◌}
use Rattle.std.specs.declared.vec.Vec.{Vec}
use Rattle.std.specs.declared.alloc.Global.{Global}
use Rattle.grammar_model.specs.Grammar.{Grammar, slot_of}
use Rattle.grammar_core.specs.Written.{IsWritten}
use Rattle.grammar_model.specs.Simple.{numbers, is_terminal}
use Rattle.flat_rules.specs.declared.numbering.SlotKey.{SlotKey}
use Rattle.flat_rules.specs.Tables.{told_slot}
use Rattle.flat_rules.proofs.Listing.{list_step, list_skip, terminals_to}
use Rattle.flat_rules.proofs.numbering.list_terminals.Goals as goal
use Rattle.flat_rules.proofs.numbering.list_terminals.Goals.{then-is_used_terminal+in_ok-push, else-is_used_terminal}

pub loop-s-preserved : goal.loop-s-preserved
loop-s-preserved c = λ d.
    let same = c.is_used_terminal.ensures d in
    elim c.if-is_used_terminal.branch [
      | then-is_used_terminal+in_ok-push w ↦ list_step c.loop-s.slots.items c.if-is_used_terminal.slots.items (map told_slot c.args.slots.now.items) slot_of (λ s. is_terminal c.args.c.now s && d.used (slot_of s)) c.loop-s.s (record { symbol = c.loop-s.s; level = 0 })
          refl (c.loop-s.invariant d) (ap (λ (v : Vec SlotKey Global). v.items) w.slots-is ∙ w.in_ok-push.ensures.items) (sym same ∙ w.if-is_used_terminal.true)
      | else-is_used_terminal w ↦ ap (λ (v : Vec SlotKey Global). map told_slot v.items) w.slots-is
          ∙ list_skip (map told_slot c.loop-s.slots.items) (map told_slot c.args.slots.now.items) slot_of (λ s. is_terminal c.args.c.now s && d.used (slot_of s)) c.loop-s.s (c.loop-s.invariant d) (sym same ∙ w.if-is_used_terminal.false)
    ]

pub returns : goal.returns
returns c = λ d.
    let same = ap (λ (g : Grammar). length g.names) c.written.ensures in
    let all : c.loop-s.s ≡ length c.args.c.now.names = omega (arith, c.loop-s-test.false, c.loop-s.auto.s-end, c.symbol_count-s-end.ensures.count, same) in
    c.loop-s.invariant d ∙ ap (λ n. map told_slot c.args.slots.now.items ++ map slot_of (filter (λ s. is_terminal c.args.c.now s && d.used (slot_of s)) (numbers n))) all
    ∙ ap (λ l. map told_slot c.args.slots.now.items ++ l) (terminals_to c.args.c.now d (subst IsWritten c.written.ensures c.symbol_count-s-end.ensures.sound))
