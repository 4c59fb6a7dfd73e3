use Rattle.std.proofs.Common.{sym, ap, ◌∙◌, arith, refl, rules}
use Rattle.std.specs.List.{slice_get, range_with_len}
use Rattle.std.specs.Prelude.{take, length}
use Rattle.std.proofs.lemmas.Iterator.{YieldsList-from_range}
use Rattle.dsl_faults.specs.Found.{fault_of, first_of}
use Rattle.dsl_faults.specs.Adverbs.{repeat_of}
use Rattle.dsl_faults.proofs.Repeats.{repeats_by_place}
use Rattle.dsl_faults.proofs.Searches.{first_in}
use Rattle.dsl_faults.proofs.checks.repeated.Goals as goal

pub returns : goal.returns
returns c =
    let adverbs = c.args.adverbs.now in
    first_in {v = λ i. i} fault_of (λ i. repeat_of (take i adverbs) (slice_get adverbs i)) (range_with_len 0 (length adverbs)) _ _ _ c.find_map.ensures.ran c.find_map.ensures.runs (YieldsList-from_range 0 (length adverbs) (length adverbs) refl (omega arith)) (λ x o q e. search rules)
    ∙ ap first_of (sym (repeats_by_place adverbs))
