use Rattle.std.proofs.Common.{sym, ◌∙◌}
use Rattle.expected_terminals.proofs.Marking.{listed_waiting}
use Rattle.expected_terminals.proofs.marks.mark_item.Goals as goal

pub returns-in-Some-terminal_of-clause-listed : goal.returns-in-Some-terminal_of-clause-listed
returns-in-Some-terminal_of-clause-listed c =
    listed_waiting c.args.flat.now c.args.item c.in-Some.symbol c.in-Some-terminal_of.t (sym c.part.ensures ∙ c.in-Some.is) c.in-Some-terminal_of.ensures.some
    c.args.marks.now.listed.items c.put_mark.new.marks.listed.items c.put_mark.ensures.listed
