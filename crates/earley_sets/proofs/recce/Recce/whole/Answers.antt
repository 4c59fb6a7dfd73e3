use Rattle.std.proofs.Common.{subst, Contains}
use Rattle.recognizer_model.specs.Counts.{IsListOf}
use Rattle.recognizer_model.specs.Flat.{FlatGrammar}
use Rattle.recognizer_model.specs.Items.{IsWhole}
use Rattle.item_rows.specs.Rows.{row_at}
use Rattle.earley_sets.specs.Recognizer.{Recognizer, set_at}
use Rattle.earley_sets.proofs.recce.Recce.whole.Goals as goal

pub returns : goal.returns
returns c =
    subst (λ (r : Recognizer). IsListOf (λ item. Contains (set_at r c.args.j) item × IsWhole r.flat item) c.whole.result) c.self.view_is
    (subst (λ (g : FlatGrammar). IsListOf (λ item. Contains (row_at c.self.inside.rows.sets c.args.j) item × IsWhole g item) c.whole.result) c.self.invariant.2 c.whole.ensures)
