use Rattle.std.proofs.Common.{◌≡◌, sym, rules, subst}
use Rattle.std.specs.Prelude.{IfOk, option_map}
use Rattle.dsl_faults.specs.Found.{fault_of, first_of}
use Rattle.dsl_faults.proofs.UseLemmas.{both_each, both_next, both_along}
use Rattle.dsl_faults.proofs.symbols.in_both.Goals as goal

pub returns : goal.returns
returns c =
    subst (λ fs. IfOk c.first_after.result (λ found. option_map fault_of found ≡ first_of fs)) (sym (both_along _ c.args.uses.now c.new.ensures c.new-2.ensures)) (c.first_after.ensures both_each both_next (λ s x o t e. search rules))
