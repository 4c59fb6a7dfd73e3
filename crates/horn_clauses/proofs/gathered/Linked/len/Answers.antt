use Rattle.std.proofs.Common.{◌∙◌, ap, sym, List, ℕ, length}
use Rattle.horn_clauses.proofs.Gathering.{gathered_long}
use Rattle.horn_clauses.proofs.gathered.Linked.len.Goals as goal

pub returns : goal.returns
returns c = sym (gathered_long c.self.inside.count c.self.inside.pairs.items) ∙ ap (λ (l : List (List ℕ)). length l) c.self.view_is
