use Rattle.recognizer_model.proofs.Once.{kept_in_one_step}
use Rattle.recognizer_model.proofs.reduced_in_one_step.Goals as goal
use Rattle.recognizer_model.specs.FlatForm.{FlatEdges}
use Rattle.grammar_model.specs.Derives.{Held}

pub returns : goal.returns
returns c = λ g edges top place is_top forward known item.
    kept_in_one_step g (FlatEdges g (Held edges)) top place is_top (λ x p q e. forward e.0 p q e.2) known item
