use Rattle.std.proofs.Common.{[], ◌∷◌, ◌++◌, map, not, ap, ◌∙◌}
use Rattle.c_handles.specs.Steps.{laid}
use Rattle.c_handles.specs.Kept.{lines_of}
use Rattle.c_handles.proofs.derivations.one_of.Goals as goal

pub returns : goal.returns
returns c = record {
  kept = λ t stands.
      ap (map (λ steps. steps.items)) (c.in_ok-push.ensures.items ∙ ap (λ l. l ++ c.in_ok-steps.steps ∷ []) c.new-derivations.ensures.items) ∙
      ap (λ x. x ∷ []) (c.in_ok-steps.ensures ∙ ap (map (laid c.args.reading.now)) (c.steps.ensures ∙ stands));
  lines = λ t stands. c.in_ok-lines.ensures t stands ∙ ap (λ r. lines_of r c.args.shown (t ∷ [])) c.requires;
  more = ap not c.is_only.ensures;
}
