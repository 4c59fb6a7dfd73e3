use Rattle.language_model.specs.Description.{Alternative}
use Rattle.std.proofs.Common.{rules}
use Rattle.dsl_faults.specs.Adverbs.{place_of, list_faults}
use Rattle.dsl_faults.proofs.checks.fault_in_group.Goals as goal

pub returns : goal.returns
returns c = c.first_found.ensures (λ (a : Alternative). list_faults c.args.check (place_of c.args.place, a.adverbs)) (λ x o e. search rules)
