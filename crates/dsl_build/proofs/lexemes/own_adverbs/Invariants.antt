use Rattle.std.proofs.Common.{◌≡◌, take, map, Bor, List}
use Rattle.std.specs.Prelude.{flat_map}
use Rattle.dsl_statement.specs.declared.statement.Adverb.{Adverb}
use Rattle.dsl_statement.specs.Statements.{adverbs_of, statement_of}
use Rattle.dsl_build.specs.Tables.{lexeme_parts}
use Rattle.dsl_build.proofs.lexemes.own_adverbs.Given as goal

abbrev pub invariant-loop-s : goal.invariant-loop-s
invariant-loop-s l = record {
  names : l.own.names ≡ map (λ p. p.0) (flat_map lexeme_parts (map statement_of (take l.s-index l.statements)));
  adverbs : map (λ (a : Bor (List Adverb)). adverbs_of a.now) l.own.adverbs.items ≡ map (λ p. p.1) (flat_map lexeme_parts (map statement_of (take l.s-index l.statements)));
}
