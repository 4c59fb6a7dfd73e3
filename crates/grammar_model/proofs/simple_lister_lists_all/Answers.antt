use Rattle.grammar_model.proofs.Simple.{trees_all}
use Rattle.grammar_model.proofs.simple_lister_lists_all.Goals as goal

pub returns : goal.returns
returns c = λ g test ranking slot p q d simple forward h. trees_all g test ranking simple forward d slot p q h
