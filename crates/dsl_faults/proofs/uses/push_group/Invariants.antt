use Rattle.std.proofs.Common.{◌≡◌, ◌++◌, map, take}
use Rattle.std.specs.Prelude.{flat_map}
use Rattle.language_model.specs.Building.{parts_of}
use Rattle.dsl_statement.specs.Statements.{is_lexical}
use Rattle.dsl_faults.specs.Uses.{used, used_of}
use Rattle.dsl_faults.specs.declared.uses.Role.TheVariants.{Right}
use Rattle.dsl_faults.proofs.uses.push_group.Given as goal

abbrev pub invariant-loop-alternative : goal.invariant-loop-alternative
invariant-loop-alternative l = map used_of l.uses.items ≡ map used_of l.fn.uses.items ++ flat_map (λ a. map (used Right (is_lexical l.level)) (parts_of a)) (take l.alternative-index l.group)
