use Rattle.std.proofs.Common.{◌∙◌, ap, sym, subst, List, ℕ}
use Rattle.jagged.specs.Rows.{row_at}
use Rattle.horn_clauses.specs.Gathered.{gathered, AreWithin}
use Rattle.horn_clauses.proofs.Gathering.{gathered_long, none_gathered, none_within}
use Rattle.horn_clauses.proofs.gathered.Gathered.new.Goals as goal

pub invariant_of-result : goal.invariant_of-result
invariant_of-result c = subst (AreWithin c.args.count) (sym c.new.ensures.items) (none_within c.args.count)

pub returns-clause-length : goal.returns-clause-length
returns-clause-length c = gathered_long c.args.count c.new.result.items

pub returns-clause-empty : goal.returns-clause-empty
returns-clause-empty c = λ x. ap (λ (ps : List (ℕ × ℕ)). row_at (gathered c.args.count ps) x) c.new.ensures.items ∙ none_gathered c.args.count x
