use Rattle.std.proofs.Common.{◌≡◌, take, map, Bor, List}
use Rattle.std.specs.Prelude.{option_copied}
use Rattle.dsl_statement.specs.declared.statement.Adverb.{Adverb}
use Rattle.dsl_statement.specs.Statements.{adverbs_of}
use Rattle.dsl_build.specs.Tables.{row_of, row_from, adverbs_at}
use Rattle.dsl_build.proofs.lexemes.lexeme_rows.Given as goal

abbrev pub invariant-loop-place : goal.invariant-loop-place
invariant-loop-place l = map row_of l.rows.items ≡ map (λ name. row_from l.symbols l.starts (adverbs_at l.own.names (map (λ (a : Bor (List Adverb)). adverbs_of a.now) l.own.adverbs.items) name) (option_copied l.default) name) (take l.place l.lexemes)
