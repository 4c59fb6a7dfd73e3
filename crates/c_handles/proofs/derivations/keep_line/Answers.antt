use Rattle.std.proofs.Common.{[], ◌∷◌, ◌++◌, map, sym, ap, ◌∙◌}
use Rattle.std.proofs.lemmas.List.{append-nil, map_push}
use Rattle.c_handles.specs.Kept.{lines_of}
use Rattle.c_handles.proofs.derivations.keep_line.Goals as goal

pub returns-in_ok-push-in-Some : goal.returns-in_ok-push-in-Some
returns-in_ok-push-in-Some c = λ t stands.
    let kept = map (λ line. line.items) c.args.lines.now.items in
    ap (map (λ line. line.items)) c.in_ok-push-in-Some.ensures.items ∙
    (map_push (λ line. line.items) c.args.lines.now.items c.in_ok-line_of-in-Some.field-0 ∙
    (ap (λ x. kept ++ x ∷ []) (c.in_ok-line_of-in-Some.ensures t stands) ∙ ap (λ shown. kept ++ lines_of c.args.derivations.now.read shown (t ∷ [])) (sym c.in-Some.is)))

pub returns-in-None : goal.returns-in-None
returns-in-None c = λ t stands.
    let kept = map (λ line. line.items) c.args.lines.now.items in
    sym (append-nil kept) ∙ ap (λ shown. kept ++ lines_of c.args.derivations.now.read shown (t ∷ [])) (sym c.in-None.is)
