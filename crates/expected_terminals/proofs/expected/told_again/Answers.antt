use Rattle.std.proofs.Common.{◌<◌, ◌∙◌, length, sym}
use Rattle.expected_terminals.proofs.Expecting.{of_some}
use Rattle.expected_terminals.proofs.expected.told_again.Goals as goal

pub row-requires : goal.row-requires
row-requires c = of_some c.args.told (λ note. note.list < length c.args.lists.now) c.in-Some.note c.requires c.in-Some.is

pub returns-then-is_same : goal.returns-then-is_same
returns-then-is_same c = (c.in-Some.is, sym c.row.ensures ∙ c.is_same.ensures.0 c.if-is_same.true)
