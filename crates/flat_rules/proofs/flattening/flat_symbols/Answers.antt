use Rattle.flat_rules.proofs.Agreeing.{listed_symbols, listed_marks}
use Rattle.flat_rules.proofs.flattening.flat_symbols.Goals as goal

pub returns-clause-list : goal.returns-clause-list
returns-clause-list c = λ d.
    listed_symbols c.args.c.now d c.args.symbols.now c.requires.numbers c.new-list.result.items c.list_slots.new.list.items c.list_lists.new.list.items c.list_tops.new.list.items c.new-list.ensures.items
    (c.in_ok-list_slots.ensures.list d) c.in_ok-list_lists.ensures.list c.in_ok-list_tops.ensures.list

pub returns-clause-marks : goal.returns-clause-marks
returns-clause-marks c = λ d.
    listed_marks c.args.c.now d c.args.symbols.now c.requires.numbers c.new-marks.result.items c.list_slots.new.marks.items c.list_lists.new.marks.items c.list_tops.new.marks.items c.new-marks.ensures.items
    (c.in_ok-list_slots.ensures.marks d) c.in_ok-list_lists.ensures.marks (c.in_ok-list_tops.ensures.marks d)
