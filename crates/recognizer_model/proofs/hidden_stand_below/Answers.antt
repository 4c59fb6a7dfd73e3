use Rattle.grammar_model.specs.Derives.{Held}
use Rattle.recognizer_model.specs.FlatForm.{FlatEdges}
use Rattle.recognizer_model.specs.Chosen.{allowed_by}
use Rattle.recognizer_model.proofs.Below.{used_below, used_above, below_expanded}
use Rattle.recognizer_model.proofs.hidden_stand_below.Goals as goal

pub returns : goal.returns
returns c = λ g edges top place w ranking sound forward leaves known. record {
  used = used_below g (FlatEdges g (Held edges)) (allowed_by w ranking g (FlatEdges g (Held edges))) top sound.is_top (λ x p q e. forward e.0 p q e.2) place
      (λ x p q e. (e.0, e.1)) sound.no_rules leaves known;
  above = used_above g (FlatEdges g (Held edges)) (allowed_by w ranking g (FlatEdges g (Held edges))) top sound.is_top (λ x p q e. forward e.0 p q e.2) place
      (λ x p q e. (e.0, e.1)) sound.no_rules leaves known;
  expanded = below_expanded g (FlatEdges g (Held edges)) (allowed_by w ranking g (FlatEdges g (Held edges))) top sound.is_top (λ x p q e. forward e.0 p q e.2) place
      (λ x p q e. (e.0, e.1)) sound.no_rules leaves known;
}
