use Rattle.flat_rules.proofs.ListsChecked.{lists_have_flat_grammar}
use Rattle.flat_rules.proofs.lists_have_flat_grammar.Goals as goal

pub returns : goal.returns
returns c = lists_have_flat_grammar
