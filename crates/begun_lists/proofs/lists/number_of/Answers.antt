use Rattle.std.proofs.Common.{◌∙◌}
use Rattle.begun_lists.proofs.Noting.{some_noted}
use Rattle.begun_lists.proofs.lists.number_of.Goals as goal

pub returns : goal.returns
returns c = some_noted c.copied.result c.args.numbers.now.entries c.args.symbols.now (c.copied.ensures ∙ c.get.ensures.value)
