use Rattle.std.proofs.Common.{arith, ◌∙◌, ◌++◌, ap, map, List, Vec, Global}
use Rattle.std.specs.Prelude.{flat_map}
use Rattle.std.proofs.lemmas.List.{take_all}
use Rattle.language_model.specs.Building.{parts_of}
use Rattle.dsl_statement.specs.declared.statement.Alternative.{Alternative as HeldAlternative}
use Rattle.dsl_statement.specs.Statements.{is_lexical}
use Rattle.dsl_faults.specs.Uses.{used, used_of}
use Rattle.dsl_faults.specs.declared.uses.Role.TheVariants.{Right}
use Rattle.dsl_faults.proofs.uses.push_groups.Goals as goal

pub returns : goal.returns
returns c =
    c.loop-group.invariant
    ∙ ap (λ (gs : List (Vec HeldAlternative Global)). map used_of c.args.uses.now.items ++ flat_map (λ g. flat_map (λ a. map (used Right (is_lexical c.args.level)) (parts_of a)) g.items) gs)
    (take_all c.loop-group.group-index c.args.groups.now (omega arith))
