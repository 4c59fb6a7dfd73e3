use Rattle.text_reading.proofs.NamedRows.{rows_known, found_named, none_named}
use Rattle.text_reading.proofs.lexemes.lexeme_named.Goals as goal

pub row_named-requires : goal.row_named-requires
row_named-requires c = rows_known c.written.result.now c.args.prepared.now.g1 c.written.ensures c.lexemes.result.now c.args.prepared.now.lexemes c.lexemes.ensures c.known.ensures.ranges.symbols

pub returns-clause-some : goal.returns-clause-some
returns-clause-some c =
    found_named c.written.result.now c.args.prepared.now.g1 c.written.ensures c.lexemes.result.now c.args.prepared.now.lexemes c.lexemes.ensures c.args.name.now c.row_named.result c.row_named.ensures.some

pub returns-clause-none : goal.returns-clause-none
returns-clause-none c = λ no.
    none_named c.written.result.now c.args.prepared.now.g1 c.written.ensures c.lexemes.result.now c.args.prepared.now.lexemes c.lexemes.ensures c.args.name.now (c.row_named.ensures.none no)
