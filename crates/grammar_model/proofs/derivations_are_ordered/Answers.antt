use Rattle.grammar_model.specs.Derives.{Held}
use Rattle.grammar_model.specs.Order.{rank_order}
use Rattle.grammar_model.proofs.Sorting.{ranks_order}
use Rattle.grammar_model.proofs.Total.{derivations_ordered}
use Rattle.grammar_model.proofs.derivations_are_ordered.Goals as goal

pub returns : goal.returns
returns c = λ g edges ranking slot p q. derivations_ordered g (Held edges) (rank_order g ranking) (ranks_order g ranking) slot p q
