use Rattle.std.proofs.Common.{ℕ, ◌<◌, ◌↔◌, List, All, Contains, subst, sym, length}
use Rattle.std.specs.Bool.{IsTrue}
use Rattle.grammar_check.specs.Links.{Tied}
use Rattle.grammar_check.proofs.Gaining.{row_known}
use Rattle.grammar_check.proofs.shortest.has_step.Goals as goal

pub has_tied-requires : goal.has_tied-requires
has_tied-requires c = subst (λ l. All (λ h. h < length c.args.floors.now) l) (sym c.row.ensures) (row_known (length c.args.floors.now) c.args.rows.now c.args.t c.requires.rows)

pub returns : goal.returns
returns c = subst (λ (l : List ℕ). IsTrue c.has_tied.result ↔ ((h : ℕ) × Contains l h × Tied c.args.floors.now c.args.x h)) c.row.ensures c.has_tied.ensures
