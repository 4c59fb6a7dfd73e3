use Rattle.std.proofs.Common.{ℕ, ◌<◌, List, All, Contains, subst, sym, length}
use Rattle.std.specs.Result.{OnOk}
use Rattle.grammar_check.specs.Links.{Tied, Gains}
use Rattle.grammar_check.proofs.Gaining.{row_known}
use Rattle.grammar_check.proofs.layers.spread.Goals as goal

pub gather-requires-clause-known : goal.gather-requires-clause-known
gather-requires-clause-known c = subst (λ l. All (λ h. h < length c.args.floors.now) l) (sym c.row.ensures) (row_known (length c.args.floors.now) c.args.rows.now c.args.t c.requires.rows)

pub returns-clause-gains : goal.returns-clause-gains
returns-clause-gains c = subst (λ (l : List ℕ). OnOk c.gather.result (Gains c.args.found.now c.gather.new.found (λ x. (h : ℕ) × Contains l h × Tied c.args.floors.now x h))) c.row.ensures c.gather.ensures.gains
