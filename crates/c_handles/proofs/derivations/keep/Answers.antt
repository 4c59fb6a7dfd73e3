use Rattle.std.proofs.Common.{◌≡◌, [], ◌∷◌, ◌++◌, map, ap, ◌∙◌, subst}
use Rattle.std.specs.Prelude.{IfSome}
use Rattle.std.proofs.lemmas.List.{map_push}
use Rattle.std.proofs.lemmas.Result.{on_ok_weaker}
use Rattle.grammar_core.specs.Steps.{step_of}
use Rattle.c_handles.specs.Steps.{laid}
use Rattle.c_handles.proofs.derivations.keep.Goals as goal

pub returns-clause-steps : goal.returns-clause-steps
returns-clause-steps c = λ t stands.
    let row = c.in_ok-steps.ensures ∙ ap (map (laid c.args.reading.now)) (subst (λ o. IfSome o (λ current. map step_of c.steps.result.now ≡ current)) stands c.steps.ensures) in
    on_ok_weaker c.keep_line.result (λ _. ap (map (λ steps. steps.items)) c.in_ok-push.ensures.items ∙
    (map_push (λ steps. steps.items) c.args.parse.now.derivations.items c.in_ok-steps.steps ∙ ap (λ x. map (λ steps. steps.items) c.args.parse.now.derivations.items ++ x ∷ []) row)) (c.keep_line.ensures t stands)
