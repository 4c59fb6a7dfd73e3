use Rattle.std.proofs.Common.{Contains}
use Rattle.dsl_build.specs.declared.built.LexemeRow.{LexemeRow as HeldRow}
use Rattle.scanless.proofs.Choosing.{rows_placed, gathered_lexemes, found_are}
use Rattle.scanless.proofs.told.found_lexemes.Goals as goal

pub add_all_found-requires-clause-places : goal.add_all_found-requires-clause-places
add_all_found-requires-clause-places c = rows_placed c.args.p.now c.lexemes.result.now c.lexemes.ensures c.in_order.ensures

pub sort_by_name-requires-clause-lexemes : goal.sort_by_name-requires-clause-lexemes
sort_by_name-requires-clause-lexemes c =
    gathered_lexemes c.args.p.now c.lexemes.result.now c.lexemes.ensures (λ (r : HeldRow). Contains c.args.matched.now r.start) c.add_all_found.new.symbols.items c.in_ok-add_all_found.ensures.exact

pub returns : goal.returns
returns c = λ text pieces at n by.
    found_are c.args.p.now c.lexemes.result.now c.lexemes.ensures text pieces at n c.args.matched.now by
    c.add_all_found.new.symbols.items c.sort_by_name.new.symbols.items c.in_ok-add_all_found.ensures.exact c.in_ok-sort_by_name.ensures.sorted c.in_ok-sort_by_name.ensures.same
