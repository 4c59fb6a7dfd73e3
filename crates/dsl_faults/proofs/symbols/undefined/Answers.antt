use Rattle.std.proofs.Common.{sym, ap, ◌∙◌, rules}
use Rattle.std.proofs.lemmas.Iterator.{YieldsList-from_slice}
use Rattle.std.proofs.lemmas.List.Folds.{flat_map-map}
use Rattle.dsl_faults.specs.Found.{fault_of, first_of}
use Rattle.dsl_faults.specs.Faults.{undefined_fault}
use Rattle.dsl_faults.specs.Uses.{used_of}
use Rattle.dsl_faults.specs.declared.uses.Use.{Use}
use Rattle.dsl_faults.proofs.Searches.{both_kept, first_in}
use Rattle.dsl_faults.proofs.symbols.undefined.Goals as goal

pub returns : goal.returns
returns c =
    let fault = undefined_fault c.args.structural.now c.args.lexical.now in
    first_in fault_of (λ (u : Use). fault (used_of u)) c.args.uses.now _ _ _ c.find_map.ensures.ran c.find_map.ensures.runs (YieldsList-from_slice c.args.uses.now cc) (λ x o q e. search (rules, both_kept))
    ∙ ap first_of (sym (flat_map-map fault used_of c.args.uses.now))
