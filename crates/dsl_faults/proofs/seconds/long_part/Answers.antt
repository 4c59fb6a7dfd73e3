use Rattle.std.proofs.Common.{sym, ap, ◌∙◌, rules, ℕ, Bor}
use Rattle.std.specs.List.{enumerate_from}
use Rattle.std.proofs.lemmas.Iterator.{YieldsList-from_slice}
use Rattle.std.proofs.lemmas.Iterator.Consumers.{YieldsList-from_enumerate}
use Rattle.language_model.specs.Tokens.{Spelled}
use Rattle.dsl_faults.specs.Found.{fault_of, first_of}
use Rattle.dsl_faults.specs.Faults.{long_fault}
use Rattle.dsl_faults.proofs.SecondLemmas.{long_numbered}
use Rattle.dsl_faults.proofs.Searches.{first_in}
use Rattle.dsl_faults.proofs.seconds.long_part.Goals as goal

pub returns : goal.returns
returns c =
    let parts = c.args.parts.now in
    first_in {v = λ p. (p.0, p.1.now)} fault_of (λ (p : ℕ × Bor Spelled). long_fault p.0 p.1.now) (enumerate_from 0 parts) _ _ _ c.find_map.ensures.ran c.find_map.ensures.runs (YieldsList-from_enumerate (YieldsList-from_slice parts cc) c.enumerate.ensures.count) (λ x o q e. search rules)
    ∙ ap first_of (sym (long_numbered 0 parts))
