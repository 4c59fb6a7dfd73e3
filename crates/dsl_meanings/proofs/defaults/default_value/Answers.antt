use Rattle.std.proofs.Common.{◌≡◌, sym, ◌∙◌, rules, Bor}
use Rattle.std.specs.Prelude.{option_copied}
use Rattle.std.proofs.lemmas.Iterator.{YieldsList-from_slice}
use Rattle.language_model.specs.Tokens.{Spelled}
use Rattle.language_model.specs.Building.{value_of, lexeme_default_adverbs}
use Rattle.dsl_statement.specs.Statements.{statement_of}
use Rattle.dsl_faults.proofs.Firsts.{first_of_option}
use Rattle.dsl_faults.proofs.Searches.{first_in}
use Rattle.dsl_meanings.proofs.DefaultLemmas.{values_in, default_first}
use Rattle.dsl_meanings.proofs.defaults.default_value.Goals as goal

pub returns : goal.returns
returns c =
    let name = c.args.name.now in
    let found = first_in (λ (t : Bor Spelled). t.now) (values_in name) c.args.statements.now _ _ _ c.find_map.ensures.ran c.find_map.ensures.runs (YieldsList-from_slice c.args.statements.now cc)
    (λ x o q e. (search rules, let h : option_copied o ≡ value_of name (lexeme_default_adverbs (statement_of x.now)) = search rules in h ∙ first_of_option _)) in
    found ∙ sym (default_first name c.args.statements.now)
