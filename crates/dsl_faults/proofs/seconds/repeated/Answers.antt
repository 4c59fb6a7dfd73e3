use Rattle.std.proofs.Common.{◌≡◌, sym, rules, refl, subst}
use Rattle.std.specs.Prelude.{IfOk, option_map}
use Rattle.dsl_faults.specs.Found.{fault_of, first_of}
use Rattle.dsl_faults.proofs.SecondLemmas.{repeated_each, repeated_next, repeated_along}
use Rattle.dsl_faults.proofs.seconds.repeated.Goals as goal

pub returns : goal.returns
returns c =
    subst (λ fs. IfOk c.first_after.result (λ found. option_map fault_of found ≡ first_of fs)) (sym (repeated_along _ c.args.statements.now refl c.new.ensures)) (c.first_after.ensures repeated_each repeated_next (λ s x o t e. search rules))
