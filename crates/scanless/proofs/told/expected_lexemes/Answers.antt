use Rattle.dsl_build.specs.declared.built.LexemeRow.{LexemeRow as HeldRow}
use Rattle.earley_sets.specs.Recognizer.{IsExpected}
use Rattle.scanless.proofs.Nexts.{next_is}
use Rattle.scanless.proofs.Choosing.{rows_ascend, gathered_lexemes, expected_are}
use Rattle.scanless.proofs.told.expected_lexemes.Goals as goal

pub add_all_expected-requires-clause-order : goal.add_all_expected-requires-clause-order
add_all_expected-requires-clause-order c = rows_ascend c.args.p.now c.lexemes.result.now c.lexemes.ensures c.in_order.ensures

pub sort_by_name-requires-clause-lexemes : goal.sort_by_name-requires-clause-lexemes
sort_by_name-requires-clause-lexemes c =
    gathered_lexemes c.args.p.now c.lexemes.result.now c.lexemes.ensures (λ (r : HeldRow). IsExpected c.args.recce.now r.symbol) c.add_all_expected.new.symbols.items c.in_ok-add_all_expected.ensures.exact

pub returns : goal.returns
returns c = λ pieces holds.
    expected_are c.args.p.now c.lexemes.result.now c.lexemes.ensures pieces c.args.recce.now (next_is c.args.p.now c.known.ensures.accepted.checked.structural pieces c.args.recce.now c.place-place.ensures.is holds)
    c.add_all_expected.new.symbols.items c.sort_by_name.new.symbols.items c.in_ok-add_all_expected.ensures.exact c.in_ok-sort_by_name.ensures.sorted c.in_ok-sort_by_name.ensures.same
