use Rattle.grammar_laws.proofs.ItemSets.{item_sets_exist}
use Rattle.grammar_laws.proofs.item_sets_exist.Goals as goal

pub returns : goal.returns
returns c = item_sets_exist
