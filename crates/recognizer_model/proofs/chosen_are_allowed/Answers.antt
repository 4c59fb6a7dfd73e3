use Rattle.grammar_model.specs.Derives.{Held}
use Rattle.recognizer_model.proofs.FlatChosen.{chosen_form}
use Rattle.recognizer_model.proofs.chosen_are_allowed.Goals as goal

pub returns : goal.returns
returns c = λ f w edges ranking r x p q slot t st d. chosen_form f w r.flat r.made r.checked (Held edges) r.forward ranking x p q slot t st d
