use Rattle.std.proofs.Common.{◌≡◌, sym, ◌∙◌, ap, subst}
use Rattle.std.specs.Prelude.{flat_map, IfOk, option_map}
use Rattle.language_model.specs.Building.{long_parts, parts_of, right_sides}
use Rattle.dsl_statement.specs.Statements.{statement_of}
use Rattle.dsl_faults.specs.Found.{fault_of, first_of}
use Rattle.dsl_faults.proofs.SecondLemmas.{long_flat}
use Rattle.dsl_faults.proofs.seconds.long_statement.Goals as goal

pub returns-in-Rules : goal.returns-in-Rules
returns-in-Rules c =
    let e : flat_map (long_parts 0) (right_sides (statement_of c.args.s.now)) ≡ flat_map (λ g. flat_map (λ a. long_parts 0 (parts_of a)) g.items) c.deref.result.now =
    ap (λ s. flat_map (long_parts 0) (right_sides (statement_of s))) c.in-Rules.is ∙ long_flat c.in-Rules.groups.items
    ∙ ap (λ gs. flat_map (λ g. flat_map (λ a. long_parts 0 (parts_of a)) g.items) gs) (sym c.deref.ensures.value) in
    subst (λ fs. IfOk c.long_groups.result (λ found. option_map fault_of found ≡ first_of fs)) (sym e) c.long_groups.ensures
