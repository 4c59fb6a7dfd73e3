use Rattle.std.specs.Prelude.{ℕ, List}
use Rattle.grammar_model.specs.declared.Ranking.{Ranking}
use Rattle.recognizer_model.specs.FlatForm.{IsFlatForm}
use Rattle.grammar_model.specs.Derives.{Held, Line}
use Rattle.recognizer_model.proofs.Words.{line_forward}
use Rattle.recognizer_model.proofs.FlatFormLaw.{flat_form}
use Rattle.recognizer_model.proofs.Expected.{to_flat, from_flat}
use Rattle.recognizer_model.proofs.acceptable_are_flat.Goals as goal

pub returns : goal.returns
returns c = λ f w edges k start r t place flat made checked forward at top.
    let forms : (words : List ℕ) (ranking : Ranking) → IsFlatForm f w (Line words) ranking = λ words ranking. flat_form f w flat made checked (Line words) (line_forward words) ranking in
    ((λ a. to_flat f w flat (Held edges) forward forms k start r at top t place a), (λ h. from_flat f w flat (Held edges) forward forms k start r at top t place h.0 h.1 h.2))
