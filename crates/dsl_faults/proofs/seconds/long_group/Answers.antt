use Rattle.std.proofs.Common.{rules}
use Rattle.language_model.specs.Description.{Alternative}
use Rattle.language_model.specs.Building.{long_parts, parts_of}
use Rattle.dsl_faults.proofs.seconds.long_group.Goals as goal

pub returns : goal.returns
returns c = c.first_found.ensures (λ (a : Alternative). long_parts 0 (parts_of a)) (λ x o e. search rules)
