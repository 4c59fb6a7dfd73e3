use Rattle.std.proofs.Common.{[], ◌∷◌, ◌++◌, ap, ◌∙◌}
use Rattle.plain_lister.proofs.lines.with_last.Goals as goal

pub returns : goal.returns
returns c = (
  c.in_ok-id.id,
  c.in_ok-id.ensures,
  c.in_ok-push.ensures.items ∙ ap (λ l. l ++ c.in_ok-id.id ∷ []) (c.in_ok-extend_from_slice.ensures.items ∙ ap (λ l. l ++ c.args.children.now) c.new-ids.ensures.items),
)
