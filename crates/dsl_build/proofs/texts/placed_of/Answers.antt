use Rattle.std.proofs.Common.{◌∙◌, ◌++◌, ap, List, ℕ}
use Rattle.std.specs.Prelude.{filter, not}
use Rattle.language_model.specs.Building.{is_one_of}
use Rattle.dsl_build.proofs.texts.placed_of.Goals as goal

pub returns-clause-names : goal.returns-clause-names
returns-clause-names c = c.in_ok-add_others.ensures ∙ ap (λ (ns : List (List ℕ)). ns ++ filter (λ t. not (is_one_of ns t)) c.args.lexemes.now) c.in_ok-tokens.ensures.names
