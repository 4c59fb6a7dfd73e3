use Rattle.std.proofs.Common.{rules, Vec, Global}
use Rattle.std.specs.Prelude.{flat_map}
use Rattle.language_model.specs.Description.{Alternative}
use Rattle.dsl_faults.specs.Adverbs.{place_of, list_faults}
use Rattle.dsl_faults.proofs.checks.fault_in_groups.Goals as goal

pub returns : goal.returns
returns c = c.first_found.ensures (λ (g : Vec Alternative Global). flat_map (λ a. list_faults c.args.check (place_of c.args.place, a.adverbs)) g.items) (λ x o e. search rules)
