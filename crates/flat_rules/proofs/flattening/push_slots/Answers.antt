use Rattle.std.proofs.Common.{◌≤◌, List, arith, map, length, subst, ◌∙◌, ap, Ok, Err}
use Rattle.std.proofs.lemmas.List.{length-map}
use Rattle.finite_sets.proofs.Members.{among_from, Among}
use Rattle.finite_sets.proofs.Lists.{get_among}
use Rattle.grammar_model.specs.Grammar.{Slot}
use Rattle.grammar_core.specs.Written.{IsWritten}
use Rattle.recognizer_model.specs.Flat.{FlatRule}
use Rattle.recognizer_model.specs.declared.flat.FlatSymbol.{FlatSymbol}
use Rattle.flat_model.specs.Flatten.{Decided, rules_of, symbol_for}
use Rattle.flat_rules.specs.Tables.{numbered_in, told_slot}
use Rattle.flat_rules.specs.Added.{from_rules}
use Rattle.flat_rules.proofs.Adding.{adds_to, loop_stop, loop_next, loop_end, at_slot}
use Rattle.flat_rules.proofs.Deciding.{decided_of, slots_known}
use Rattle.flat_rules.proofs.Listing.{among_rule}
use Rattle.flat_rules.proofs.Rows.{rows_length}
use Rattle.flat_rules.proofs.SymbolRules.{row_rules, row_of_slot}
use Rattle.flat_rules.proofs.flattening.push_slots.Goals as goal

pub bounds-rows-slot : goal.bounds-rows-slot
bounds-rows-slot c =
    let written = subst IsWritten c.written.ensures c.known.ensures in
    let d : Decided c.args.c.now = decided_of c.args.c.now written c.tested.ensures in
    let slots = c.args.symbols.now.slots in
    let known = slots_known c.args.c.now d written (told_slot c.slot-slot.result) (subst (Among (told_slot c.slot-slot.result)) (c.requires.numbers.slots d) (get_among slots c.loop-x.x (told_slot c.slot-slot.result) c.slot-slot.ensures)) in
    let long = rows_length c.args.rows.now in
    omega (arith, known, long, c.requires.rows.sized)

pub push_row-requires-clause-row : goal.push_row-requires-clause-row
push_row-requires-clause-row c = λ i m.
    let written = subst IsWritten c.written.ensures c.known.ensures in
    let d : Decided c.args.c.now = decided_of c.args.c.now written c.tested.ensures in
    let row = row_of_slot c.args.c.now d c.args.symbols.now.slots c.loop-x.x (told_slot c.slot-slot.result) c.args.rows.now c.index-rows-slot.result written (c.requires.numbers.slots d) c.slot-slot.ensures c.requires.rows c.index-rows-slot.is in
    among_rule c.args.c.now c.slot-slot.result.symbol i (subst (Among i) (c.deref.ensures.value ∙ row.1) (among_from c.deref.result.now i m))

pub returns-in_err-push_row : goal.returns-in_err-push_row
returns-in_err-push_row c = λ d.
    let t = c.args.symbols.now in
    let g : FlatSymbol → List FlatRule = λ x. map (numbered_in t) (rules_of c.args.c.now d x) in
    let slot : Slot = told_slot c.slot-slot.result in
    let row = row_of_slot c.args.c.now d t.slots c.loop-x.x slot c.args.rows.now c.index-rows-slot.result (subst IsWritten c.written.ensures c.known.ensures) (c.requires.numbers.slots d) c.slot-slot.ensures c.requires.rows c.index-rows-slot.is in
    let (lt, is) = at_slot (symbol_for c.args.c.now d) t.slots c.loop-x.x slot c.slot-slot.ensures in
    loop_stop g (map (symbol_for c.args.c.now d) t.slots) c.loop-x.x (symbol_for c.args.c.now d slot) c.args.rules.now.items c.loop-x.rules.items c.push_row.new.rules.items c.push_row.new.rules.items c.in_err-push_row.field-0.0 c.from_residual.result lt is c.from_residual.ensures.1 (c.loop-x.invariant d)
    (adds_to {T = Unit {0}} c.loop-x.rules.items c.push_row.new.rules.items (from_rules c.args.c.now d t slot c.deref.result.now) (g (symbol_for c.args.c.now d slot)) (Err c.in_err-push_row.field-0.0)
    (ap (from_rules c.args.c.now d t slot) (c.deref.ensures.value ∙ row.1) ∙ row_rules c.args.c.now d t slot) (c.in_err-push_row.ensures d))

pub loop-x-preserved : goal.loop-x-preserved
loop-x-preserved c = λ d.
    let t = c.args.symbols.now in
    let g : FlatSymbol → List FlatRule = λ x. map (numbered_in t) (rules_of c.args.c.now d x) in
    let slot : Slot = told_slot c.slot-slot.result in
    let row = row_of_slot c.args.c.now d t.slots c.loop-x.x slot c.args.rows.now c.index-rows-slot.result (subst IsWritten c.written.ensures c.known.ensures) (c.requires.numbers.slots d) c.slot-slot.ensures c.requires.rows c.index-rows-slot.is in
    let (lt, is) = at_slot (symbol_for c.args.c.now d) t.slots c.loop-x.x slot c.slot-slot.ensures in
    loop_next g (map (symbol_for c.args.c.now d) t.slots) c.loop-x.x (symbol_for c.args.c.now d slot) c.args.rules.now.items c.loop-x.rules.items c.push_row.new.rules.items lt is (c.loop-x.invariant d)
    (adds_to {T = Unit {0}} c.loop-x.rules.items c.push_row.new.rules.items (from_rules c.args.c.now d t slot c.deref.result.now) (g (symbol_for c.args.c.now d slot)) (Ok tt)
    (ap (from_rules c.args.c.now d t slot) (c.deref.ensures.value ∙ row.1) ∙ row_rules c.args.c.now d t slot) (c.in_ok-push_row.ensures d))

pub returns : goal.returns
returns c = λ d.
    let g : FlatSymbol → List FlatRule = λ x. map (numbered_in c.args.symbols.now) (rules_of c.args.c.now d x) in
    let slots = c.args.symbols.now.slots in
    let long = length-map slots (symbol_for c.args.c.now d) in
    let le : length (map (symbol_for c.args.c.now d) slots) ≤ c.loop-x.x = omega (arith, long, c.loop-x-test.false, c.slot_count-x-end.ensures) in
    loop_end g (map (symbol_for c.args.c.now d) slots) c.loop-x.x c.args.rules.now.items c.loop-x.rules.items le (c.loop-x.invariant d)
