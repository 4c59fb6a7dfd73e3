use Rattle.std.proofs.Common.{◌<◌, ◌∙◌, sym, ap, subst, ℕ, List, length}
use Rattle.jagged.specs.Rows.{row_at}
use Rattle.shared_lists.proofs.lists.SharedLists.list.Goals as goal

pub row-requires : goal.row-requires
row-requires c = subst (λ (l : List (List ℕ)). c.args.k < length l) (sym c.self.view_is) c.requires

pub returns : goal.returns
returns c = c.row.ensures ∙ ap (λ (l : List (List ℕ)). row_at l c.args.k) c.self.view_is
