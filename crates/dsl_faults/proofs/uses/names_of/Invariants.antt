use Rattle.std.proofs.Common.{◌≡◌, [], take}
use Rattle.std.specs.Prelude.{flat_map}
use Rattle.language_model.specs.Building.{new_texts}
use Rattle.dsl_faults.specs.Uses.{used_of, texts_asked}
use Rattle.dsl_faults.proofs.uses.names_of.Given as goal

abbrev pub invariant-loop-used : goal.invariant-loop-used
invariant-loop-used l = l.names ≡ new_texts [] (flat_map (λ u. texts_asked l.which (used_of u)) (take l.used-index l.uses))
