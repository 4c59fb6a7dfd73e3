use Rattle.std.proofs.Common.{ap, sym, subst, ◌∙◌, List, ℕ}
use Rattle.std.specs.Prelude.{IfOk}
use Rattle.horn_clauses.specs.Rows.{HasSameRows}
use Rattle.horn_clauses.specs.Gathered.{gathered, AreWithin}
use Rattle.horn_clauses.proofs.gathered.Gathered.rows.Goals as goal

pub rows_of-requires : goal.rows_of-requires
rows_of-requires c = subst (AreWithin c.self.inside.count) (sym c.deref.ensures.value) c.self.invariant

pub returns : goal.returns
returns c = subst (λ (old : List (List ℕ)). IfOk c.rows_of.result (λ rows. HasSameRows old rows)) (ap (gathered c.self.inside.count) c.deref.ensures.value ∙ c.self.view_is) c.rows_of.ensures
