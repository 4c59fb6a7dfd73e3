use Rattle.grammar_model.specs.Derives.{Held}
use Rattle.grammar_model.proofs.ChosenOnce.{chosen_unique}
use Rattle.grammar_model.proofs.chosen_list_is_unique.Goals as goal

pub returns : goal.returns
returns c = λ g edges ranking slot p q ts us. chosen_unique g (Held edges) ranking slot p q ts us
