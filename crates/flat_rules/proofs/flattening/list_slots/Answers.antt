use Rattle.std.proofs.Common.{map, sym, ◌∙◌, ap, arith, ◌++◌, subst}
use Rattle.std.proofs.lemmas.List.{take_all}
use Rattle.std.proofs.lemmas.Simd.{map-map}
use Rattle.finite_sets.proofs.Members.{Among}
use Rattle.finite_sets.proofs.Lists.{get_among, get_index}
use Rattle.grammar_model.specs.Grammar.{Slot}
use Rattle.grammar_core.specs.Written.{IsWritten}
use Rattle.flat_model.specs.Flatten.{Decided, is_marked, symbol_for}
use Rattle.flat_rules.specs.Tables.{told_slot, rows_of, row_at}
use Rattle.flat_rules.proofs.Adding.{take_step}
use Rattle.flat_rules.proofs.Deciding.{decided_of, slots_known}
use Rattle.flat_rules.proofs.Rows.{rows_length}
use Rattle.flat_rules.proofs.SymbolRules.{symbol_told, mark_told}
use Rattle.flat_rules.proofs.flattening.list_slots.Goals as goal

pub symbol_of-requires : goal.symbol_of-requires
symbol_of-requires c =
    let written = subst IsWritten c.written.ensures c.known.ensures in
    let d : Decided c.args.c.now = decided_of c.args.c.now written c.tested.ensures in
    let slot : Slot = told_slot c.slot-slot.result in
    let known = slots_known c.args.c.now d written slot (subst (Among slot) (c.requires.numbers.slots d) (get_among c.args.symbols.now.slots c.loop-x.x slot c.slot-slot.ensures)) in
    let long = rows_length c.args.rows.now in
    omega (arith, known, long, c.requires.rows.sized)

pub slot_nullable-requires : goal.slot_nullable-requires
slot_nullable-requires c =
    let written = subst IsWritten c.written.ensures c.known.ensures in
    let d : Decided c.args.c.now = decided_of c.args.c.now written c.tested.ensures in
    let slot : Slot = told_slot c.slot-slot.result in
    slots_known c.args.c.now d written slot (subst (Among slot) (c.requires.numbers.slots d) (get_among c.args.symbols.now.slots c.loop-x.x slot c.slot-slot.ensures))

pub loop-x-preserved : goal.loop-x-preserved
loop-x-preserved c =
    let w = c.args.c.now in
    let slots = c.args.symbols.now.slots in
    let slot : Slot = told_slot c.slot-slot.result in
    let (lt, is) = get_index slots c.loop-x.x slot slot c.slot-slot.ensures in record {
      list = λ d.
          let known = slots_known w d (subst IsWritten c.written.ensures c.known.ensures) slot (subst (Among slot) (c.requires.numbers.slots d) (get_among slots c.loop-x.x slot c.slot-slot.ensures)) in
          take_step (symbol_for w d) slots c.loop-x.x slot c.symbol_of.result c.args.list.now.items c.loop-x.list.items c.push.new.self.items lt (sym is) (c.loop-x.invariant.list d) c.in_ok-push.ensures.items
          (symbol_told w d slot (row_at (rows_of c.args.rows.now) slot.symbol) c.symbol_of.result (c.requires.rows.each slot.symbol known) c.symbol_of.ensures.terminal c.symbol_of.ensures.left);
      marks = λ d. take_step (λ s. is_marked w d (symbol_for w d s)) slots c.loop-x.x slot c.slot_nullable.result c.args.marks.now.items c.loop-x.marks.items c.push-in-loop-x.new.self.items lt (sym is) (c.loop-x.invariant.marks d) c.in_ok-push-2.ensures.items
          (mark_told w d slot c.slot_nullable.result c.slot_nullable.ensures);
    }

pub returns-clause-list : goal.returns-clause-list
returns-clause-list c = λ d.
    let slots = c.args.symbols.now.slots in
    c.loop-x.invariant.list d ∙ ap (λ l. c.args.list.now.items ++ map (symbol_for c.args.c.now d) l) (take_all c.loop-x.x slots (omega (arith, c.loop-x-test.false, c.slot_count-x-end.ensures)))

pub returns-clause-marks : goal.returns-clause-marks
returns-clause-marks c = λ d.
    let w = c.args.c.now in
    let slots = c.args.symbols.now.slots in
    c.loop-x.invariant.marks d ∙ ap (λ l. c.args.marks.now.items ++ map (λ s. is_marked w d (symbol_for w d s)) l) (take_all c.loop-x.x slots (omega (arith, c.loop-x-test.false, c.slot_count-x-end.ensures)))
    ∙ ap (λ l. c.args.marks.now.items ++ l) (sym (map-map (is_marked w d) (symbol_for w d) slots))
