use Rattle.std.proofs.Common.{◌↔◌, ◌-◌, sym, subst, Contains}
use Rattle.item_rows.specs.Rows.{row_at}
use Rattle.earley_sets.specs.Recognizer.{Recognizer, HasTree}
use Rattle.earley_sets.proofs.Recognizing.{whole_is_tree, recognizer}
use Rattle.earley_sets.proofs.recce.Recce.at_end.Goals as goal

pub returns : goal.returns
returns c =
    let law = whole_is_tree c.self.inside.flat.now c.self.inside.start c.self.inside.edges c.self.inside.rows.sets c.self.inside.top c.self.inside.memo c.self.invariant.0 in
    let there : Contains (row_at c.self.inside.rows.sets (c.len-last.result - 1)) (record { rule = c.self.inside.top; dot = 1; origin = 0 }) ↔ HasTree c.args.self.now =
    subst (λ (r : Recognizer). Contains (row_at c.self.inside.rows.sets (c.len-last.result - 1)) (record { rule = c.self.inside.top; dot = 1; origin = 0 }) ↔ HasTree r) c.self.view_is
    (subst (λ n. Contains (row_at c.self.inside.rows.sets (n - 1)) (record { rule = c.self.inside.top; dot = 1; origin = 0 }) ↔ HasTree (recognizer c.self.inside.flat.now c.self.inside.start c.self.inside.edges c.self.inside.rows.sets c.self.inside.memo)) (sym c.len-last.ensures) law) in
    ((λ t. there.0 (c.contains.ensures.0 t)), (λ h. c.contains.ensures.1 (there.1 h)))
