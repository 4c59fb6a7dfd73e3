use Rattle.std.proofs.Common.{◌≡◌, ◌∙◌, arith, ap, map, sym, subst, List, ℕ, false}
use Rattle.std.specs.Prelude.{All, flat_map}
use Rattle.std.proofs.lemmas.List.{take_all}
use Rattle.std.proofs.lemmas.List.Elements.{All-from_recursion}
use Rattle.language_model.specs.Description.{Adverb}
use Rattle.language_model.specs.Building.{is_one_of}
use Rattle.dsl_statement.specs.declared.statement.Statement.{Statement as HeldStatement}
use Rattle.dsl_statement.specs.Statements.{statement_of}
use Rattle.dsl_build.specs.Tables.{lexeme_parts}
use Rattle.dsl_build.proofs.OwnLemmas.{own_unseen}
use Rattle.dsl_build.proofs.lexemes.own_adverbs.Goals as goal

pub push_own-requires : goal.push_own-requires
push_own-requires c =
    let parts = lexeme_parts (statement_of c.s-item.result) in
    subst (λ (ns : List (List ℕ)). All (λ (p : (List ℕ) × List Adverb). is_one_of ns p.0 ≡ false) parts) (sym c.loop-s.invariant.names)
    (All-from_recursion (λ (p : (List ℕ) × List Adverb). is_one_of _ p.0 ≡ false) parts (own_unseen c.args.statements.now c.loop-s.s-index c.s-item.result c.requires (omega arith) c.s-item.is))

pub returns-clause-names : goal.returns-clause-names
returns-clause-names c =
    c.loop-s.invariant.names ∙ ap (λ (ss : List HeldStatement). map (λ (p : (List ℕ) × List Adverb). p.0) (flat_map lexeme_parts (map statement_of ss))) (take_all c.loop-s.s-index c.args.statements.now (omega arith))

pub returns-clause-adverbs : goal.returns-clause-adverbs
returns-clause-adverbs c =
    c.loop-s.invariant.adverbs ∙ ap (λ (ss : List HeldStatement). map (λ (p : (List ℕ) × List Adverb). p.1) (flat_map lexeme_parts (map statement_of ss))) (take_all c.loop-s.s-index c.args.statements.now (omega arith))
