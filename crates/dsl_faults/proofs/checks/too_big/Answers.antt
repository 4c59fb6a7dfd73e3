use Rattle.std.proofs.Common.{[], ◌∷◌, sym, ap, ◌∙◌, rules}
use Rattle.std.proofs.lemmas.Iterator.{YieldsList-from_slice}
use Rattle.dsl_statement.specs.declared.statement.Adverb.{Adverb as HeldAdverb}
use Rattle.dsl_statement.specs.Statements.{adverb_of}
use Rattle.dsl_faults.specs.Found.{first_of, fault_of}
use Rattle.dsl_faults.specs.Adverbs.{big_faults}
use Rattle.dsl_faults.proofs.Pairs.{big_flat}
use Rattle.dsl_faults.proofs.Searches.{first_in}
use Rattle.dsl_faults.proofs.checks.too_big.Goals as goal

pub returns : goal.returns
returns c =
    first_in fault_of (λ (a : HeldAdverb). big_faults (adverb_of a ∷ [])) c.args.adverbs.now _ _ _ c.find_map.ensures.ran c.find_map.ensures.runs (YieldsList-from_slice c.args.adverbs.now cc) (λ x o q e. search rules)
    ∙ ap first_of (sym (big_flat c.args.adverbs.now))
