use Rattle.std.proofs.Common.{[], ◌∷◌, ◌++◌, map, sym, ap, ◌∙◌}
use Rattle.c_handles.specs.Kept.{lines_of}
use Rattle.c_handles.proofs.derivations.first_lines.Goals as goal

pub returns-in_ok-push-in-Some : goal.returns-in_ok-push-in-Some
returns-in_ok-push-in-Some c = λ t stands.
    ap (map (λ line. line.items)) (c.in_ok-push-in-Some.ensures.items ∙ ap (λ l. l ++ c.in_ok-first_line-in-Some.field-0 ∷ []) c.new-lines.ensures.items) ∙
    (ap (λ x. x ∷ []) (c.in_ok-first_line-in-Some.ensures t stands) ∙ ap (λ shown. lines_of c.args.first.now.read shown (t ∷ [])) (sym c.in-Some.is))

pub returns-in-None : goal.returns-in-None
returns-in-None c = λ t stands.
    ap (map (λ line. line.items)) c.new-lines.ensures.items ∙ ap (λ shown. lines_of c.args.first.now.read shown (t ∷ [])) (sym c.in-None.is)
