use Rattle.std.proofs.Common.{◌≡◌, Some, subst, Contains}
use Rattle.recognizer_model.specs.Counts.{IsListOf}
use Rattle.recognizer_model.specs.Items.{after}
use Rattle.item_rows.specs.Rows.{row_at}
use Rattle.item_rows.proofs.Viewing.{waits_over}
use Rattle.earley_sets.specs.Recognizer.{Recognizer, set_at}
use Rattle.earley_sets.proofs.recce.Recce.waiting.Goals as goal

pub returns : goal.returns
returns c =
    subst (λ (r : Recognizer). IsListOf (λ item. Contains (set_at r c.args.j) item × (after r.flat item ≡ Some c.args.symbol)) c.waiting.result) c.self.view_is
    (waits_over c.self.inside.rows c.self.inside.flat.now (row_at c.self.inside.rows.sets c.args.j) c.waiting.result c.args.symbol c.self.invariant.2 c.waiting.ensures)
