use Rattle.std.proofs.Common.{◌∙◌, sym, ap, List, slice_get}
use Rattle.item_rows.specs.declared.heads.Rules.{Rules}
use Rattle.item_rows.proofs.heads.rules_of.Goals as goal

pub returns-in-Some : goal.returns-in-Some
returns-in-Some c = c.requires.rules c.args.symbol c.in-Some.rules (sym (c.in-Some.ensures ∙ ap (λ (l : List Rules). slice_get l c.args.symbol) c.deref.ensures.value))
