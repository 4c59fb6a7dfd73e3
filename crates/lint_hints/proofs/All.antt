-- All hints, from none on.
use Rattle.std.proofs.Common.{◌≡◌, List, [], ◌++◌, ap, ◌∙◌}
use Rattle.std.specs.List.{flat_map}
use Rattle.language_model.specs.Description.{Statement}
use Rattle.lint_hints.specs.Hints.{Hint, latm_hints, statement_hints}
use Rattle.lint_hints.specs.Uses.{unused_hints}
use Rattle.lint_hints.specs.Nullable.{sequence_hints}
use Rattle.lint_hints.specs.All.{AddsSequences, AreHints}

pub all_hints : (d : List Statement) (start one two three four : List Hint) → start ≡ [] → one ≡ start ++ latm_hints d → two ≡ one ++ flat_map statement_hints d → three ≡ two ++ unused_hints d → AddsSequences d three four → AreHints d four
all_hints d start one two three four none first second third fourth = record {
  causes = fourth.causes;
  each = fourth.each;
  are = fourth.are ∙ ap (λ hints. hints ++ flat_map (sequence_hints fourth.causes) d)
      (third ∙ ap (λ hints. hints ++ unused_hints d) (second ∙ ap (λ hints. hints ++ flat_map statement_hints d) (first ∙ ap (λ hints. hints ++ latm_hints d) none)));
}
