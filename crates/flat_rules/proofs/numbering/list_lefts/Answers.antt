use Rattle.std.proofs.Common.{◌≡◌, ◌<◌, ap, ◌∙◌, sym, subst, ◌++◌, map, arith, length, append_assoc}
use Rattle.std.specs.List.{flat_map}
use Rattle.finite_sets.proofs.Members.{among_from, contains_from, Among}
use Rattle.grammar_model.specs.Grammar.{Grammar, rule_at, level_of}
use Rattle.grammar_model.specs.Simple.{numbers}
use Rattle.grammar_core.specs.Written.{IsWritten}
use Rattle.flat_model.specs.Flatten.{levels_of}
use Rattle.flat_rules.specs.Tables.{told_slot, slot_at}
use Rattle.flat_rules.proofs.Rows.{row_is, rows_length}
use Rattle.flat_rules.proofs.Listing.{levels_are, flat_next, lefts_to, among_rule}
use Rattle.flat_rules.proofs.numbering.list_lefts.Goals as goal

pub room_of-room-requires : goal.room_of-room-requires
room_of-room-requires c = λ i m.
    let same = ap (λ (g : Grammar). length g.names) c.written-w.ensures in
    let long = rows_length c.args.rows.now in
    let less : c.loop-s.s < length c.args.c.now.names = omega (arith, c.loop-s-test.true, c.loop-s.auto.s-end, c.symbol_count-s-end.ensures.count, same) in
    let lt : c.loop-s.s < length c.args.rows.now = omega (arith, long, c.requires.sized, less) in
    let row = c.deref.ensures.value ∙ row_is c.args.rows.now c.loop-s.s c.index-rows-s.result lt c.index-rows-s.is ∙ c.requires.each c.loop-s.s less in
    subst (λ (g : Grammar). i < length g.rules) (sym c.written-w.ensures) (among_rule c.args.c.now c.loop-s.s i (subst (λ l. Among i l) row (among_from c.deref.result.now i m))).0

pub loop-s-preserved : goal.loop-s-preserved
loop-s-preserved c = λ d.
    let same = ap (λ (g : Grammar). length g.names) c.written-w.ensures in
    let long = rows_length c.args.rows.now in
    let less : c.loop-s.s < length c.args.c.now.names = omega (arith, c.loop-s-test.true, c.loop-s.auto.s-end, c.symbol_count-s-end.ensures.count, same) in
    let lt : c.loop-s.s < length c.args.rows.now = omega (arith, long, c.requires.sized, less) in
    let row = c.deref.ensures.value ∙ row_is c.args.rows.now c.loop-s.s c.index-rows-s.result lt c.index-rows-s.is ∙ c.requires.each c.loop-s.s less in
    let levels = levels_are c.args.c.now d c.loop-s.s c.room_of-room.result (λ e. c.room_of-room.ensures.none (row ∙ e))
    (λ i m. subst (λ g. level_of (rule_at g i) < c.room_of-room.result) c.written-w.ensures (c.room_of-room.ensures.bound i (contains_from c.deref.result.now i (subst (λ l. Among i l) (sym row) m)))) in
    c.in_ok-list_levels.ensures d ∙ (λ z. c.loop-s.invariant d z ++ map (slot_at c.loop-s.s) (sym levels z))
    ∙ append_assoc (map told_slot c.args.slots.now.items) (flat_map (λ s. map (slot_at s) (levels_of c.args.c.now d s)) (numbers c.loop-s.s)) (map (slot_at c.loop-s.s) (levels_of c.args.c.now d c.loop-s.s))
    ∙ ap (λ l. map told_slot c.args.slots.now.items ++ l) (sym (flat_next (λ s. map (slot_at s) (levels_of c.args.c.now d s)) c.loop-s.s))

pub returns : goal.returns
returns c = λ d.
    let same = ap (λ (g : Grammar). length g.names) c.written-w.ensures in
    let all : c.loop-s.s ≡ length c.args.c.now.names = omega (arith, c.loop-s-test.false, c.loop-s.auto.s-end, c.symbol_count-s-end.ensures.count, same) in
    c.loop-s.invariant d ∙ ap (λ n. map told_slot c.args.slots.now.items ++ flat_map (λ s. map (slot_at s) (levels_of c.args.c.now d s)) (numbers n)) all
    ∙ ap (λ l. map told_slot c.args.slots.now.items ++ l) (lefts_to c.args.c.now d (subst IsWritten c.written-w.ensures c.symbol_count-s-end.ensures.sound))
