use Rattle.grammar_model.specs.Derives.{Held}
use Rattle.recognizer_model.proofs.FlatFormLaw.{flat_form}
use Rattle.recognizer_model.proofs.flat_grammars_are_flat_forms.Goals as goal

pub returns : goal.returns
returns c = λ f w edges ranking flat made checked forward. flat_form f w flat made checked (Held edges) forward ranking
