use Rattle.grammar_model.specs.Derives.{Held}
use Rattle.grammar_model.specs.Order.{rank_order}
use Rattle.grammar_model.proofs.Sorting.{ranks_order}
use Rattle.grammar_model.proofs.Total.{all_unique}
use Rattle.grammar_model.proofs.list_is_unique.Goals as goal

pub returns : goal.returns
returns c = λ g edges ranking slot p q ts us. all_unique g (Held edges) (rank_order g ranking) (ranks_order g ranking) slot p q ts us
