use Rattle.std.proofs.Common.{◌≡◌, sym, ◌∙◌, ap, subst, IfOk, map}
use Rattle.std.specs.Prelude.{flat_map, option_map}
use Rattle.dsl_statement.specs.Statements.{statement_of}
use Rattle.dsl_faults.specs.Found.{fault_of, first_of}
use Rattle.dsl_faults.specs.Adverbs.{place_of, list_faults, statement_faults}
use Rattle.dsl_faults.proofs.Pairs.{groups_flat}
use Rattle.dsl_faults.proofs.checks.fault_in_statement.Goals as goal

pub returns-in-Rules : goal.returns-in-Rules
returns-in-Rules c =
    let check = c.args.check in
    let e : statement_faults check (statement_of c.args.s.now) ≡ flat_map (λ g. flat_map (λ a. list_faults check (place_of c.place_of_alternatives.result, a.adverbs)) g.items) c.deref-in-Rules.result.now =
    ap (λ s. statement_faults check (statement_of s)) c.in-Rules.is
    ∙ ap (λ p. flat_map (list_faults check) (flat_map (λ g. map (λ a. (p, a.adverbs)) g) (map (λ g. g.items) c.in-Rules.groups.items))) (sym c.place_of_alternatives.ensures)
    ∙ groups_flat check (place_of c.place_of_alternatives.result) c.in-Rules.groups.items
    ∙ ap (λ gs. flat_map (λ g. flat_map (λ a. list_faults check (place_of c.place_of_alternatives.result, a.adverbs)) g.items) gs) (sym c.deref-in-Rules.ensures.value) in
    subst (λ fs. IfOk c.fault_in_groups.result (λ found. option_map fault_of found ≡ first_of fs)) (sym e) c.fault_in_groups.ensures
