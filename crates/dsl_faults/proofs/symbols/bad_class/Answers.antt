use Rattle.std.proofs.Common.{◌≡◌, subst, sym, rules}
use Rattle.std.specs.Prelude.{IfOk, option_map}
use Rattle.std.proofs.lemmas.List.Folds.{flat_map-map}
use Rattle.dsl_faults.specs.Found.{fault_of, first_of}
use Rattle.dsl_faults.specs.Faults.{class_fault}
use Rattle.dsl_faults.specs.Uses.{used_of}
use Rattle.dsl_faults.specs.declared.uses.Use.{Use}
use Rattle.dsl_faults.proofs.symbols.bad_class.Goals as goal

pub returns : goal.returns
returns c =
    subst (λ fs. IfOk c.first_found.result (λ found. option_map fault_of found ≡ first_of fs)) (sym (flat_map-map class_fault used_of c.args.uses.now))
    (c.first_found.ensures (λ (u : Use). class_fault (used_of u)) (λ x o e. search rules))
