use Rattle.std.proofs.Common.{◌∙◌}
use Rattle.std.proofs.lemmas.List.Sorted.{searched}
use Rattle.char_class.proofs.MembersLemmas.{among_is}
use Rattle.char_class.proofs.set.is_among.Goals as goal

pub returns : goal.returns
returns c = c.is_ok.ensures.value ∙ among_is c.args.codes.now c.args.code c.binary_search.result (searched c.args.codes.now c.args.code c.binary_search.result c.binary_search.ensures.position c.requires)
