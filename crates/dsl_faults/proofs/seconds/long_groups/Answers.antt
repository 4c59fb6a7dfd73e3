use Rattle.std.proofs.Common.{rules, Vec, Global}
use Rattle.std.specs.Prelude.{flat_map}
use Rattle.language_model.specs.Description.{Alternative}
use Rattle.language_model.specs.Building.{long_parts, parts_of}
use Rattle.dsl_faults.proofs.seconds.long_groups.Goals as goal

pub returns : goal.returns
returns c = c.first_found.ensures (λ (g : Vec Alternative Global). flat_map (λ a. long_parts 0 (parts_of a)) g.items) (λ x o e. search rules)
