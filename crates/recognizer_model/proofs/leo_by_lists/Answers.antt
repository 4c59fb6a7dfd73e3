use Rattle.recognizer_model.proofs.Once.{known_by_lists}
use Rattle.recognizer_model.proofs.leo_by_lists.Goals as goal
use Rattle.recognizer_model.specs.FlatForm.{FlatEdges}
use Rattle.grammar_model.specs.Derives.{Held}

pub returns : goal.returns
returns c = λ g edges top place x waiting lists. known_by_lists g (FlatEdges g (Held edges)) top place x waiting lists
