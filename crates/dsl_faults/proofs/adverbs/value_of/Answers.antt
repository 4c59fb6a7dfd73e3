use Rattle.std.proofs.Common.{◌≡◌, [], ◌∷◌, sym, ◌∙◌, rules, Bor}
use Rattle.std.proofs.lemmas.Iterator.{YieldsList-from_slice}
use Rattle.std.specs.Prelude.{option_copied}
use Rattle.language_model.specs.Building.{value_of}
use Rattle.dsl_statement.specs.Statements.{adverb_of}
use Rattle.dsl_faults.proofs.Firsts.{first_of_option}
use Rattle.dsl_faults.proofs.Pairs.{values_in, value_of_first}
use Rattle.dsl_faults.proofs.Searches.{first_in}
use Rattle.language_model.specs.Tokens.{Spelled}
use Rattle.dsl_faults.proofs.adverbs.value_of.Goals as goal

pub returns : goal.returns
returns c =
    let name = c.args.name.now in
    let found = first_in (λ (t : Bor Spelled). t.now) (values_in name) c.args.adverbs.now _ _ _ c.find_map.ensures.ran c.find_map.ensures.runs (YieldsList-from_slice c.args.adverbs.now cc)
    (λ x o q e. (search rules, let h : option_copied o ≡ value_of name (adverb_of x.now ∷ []) = search rules in h ∙ first_of_option _)) in
    found ∙ sym (value_of_first name c.args.adverbs.now)
