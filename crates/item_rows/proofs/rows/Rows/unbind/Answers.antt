use Rattle.std.proofs.Common.{◌∙◌, refl, sym, ap, List}
use Rattle.recognizer_model.specs.declared.Item.{Item}
use Rattle.item_rows.specs.Held.{rows_from, lists_from}
use Rattle.item_rows.proofs.Holding.{seen_as, same_flat}
use Rattle.item_rows.proofs.rows.Rows.unbind.Goals as goal

pub returns-clause-is : goal.returns-clause-is
returns-clause-is c =
    seen_as (sym (same_flat c.self.inside.dotted.flat c.self.inside.dotted.rules c.self.inside.lists c.self.inside.kernels c.args.self c.self.view_is))
    (ap (λ (l : List Item). rows_from l c.self.inside.lists 0 c.self.inside.kernels) c.unbind.ensures.rules) (ap (λ (l : List Item). lists_from l c.self.inside.lists) c.unbind.ensures.rules) refl
    ∙ c.self.view_is
