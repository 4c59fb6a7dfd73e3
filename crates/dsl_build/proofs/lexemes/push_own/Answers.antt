use Rattle.std.proofs.Common.{◌≡◌, ◌∙◌, ap, subst, List, ℕ, [], false}
use Rattle.std.specs.Prelude.{All}
use Rattle.std.proofs.lemmas.List.Elements.{All-head}
use Rattle.language_model.specs.Tokens.{Spelled}
use Rattle.language_model.specs.Description.{Adverb}
use Rattle.language_model.specs.Building.{is_one_of}
use Rattle.dsl_statement.specs.declared.statement.Statement.{Statement as HeldStatement}
use Rattle.dsl_statement.specs.Statements.{adverbs_of, statement_of}
use Rattle.dsl_build.specs.Tables.{lexeme_parts}
use Rattle.dsl_build.proofs.lexemes.push_own.Goals as goal

pub add_new-requires : goal.add_new-requires
add_new-requires c =
    let names = c.args.own.now.names in
    let P = λ (p : (List ℕ) × List Adverb). is_one_of names p.0 ≡ false in
    let parts = subst (λ (s : HeldStatement). All P (lexeme_parts (statement_of s))) c.in-Lexeme.is c.requires in
    ap (λ t. is_one_of names t) (c.as_str.ensures.value ∙ ap (λ (x : Spelled). x.content) c.name.view_is) ∙ All-head P (c.in-Lexeme.name.content, adverbs_of c.in-Lexeme.adverbs.items) [] parts
