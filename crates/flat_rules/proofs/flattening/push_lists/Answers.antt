use Rattle.std.proofs.Common.{◌≤◌, List, arith, get_or, map, length, subst, ◌∙◌, ap, Ok, Err}
use Rattle.std.proofs.lemmas.List.{length-map}
use Rattle.grammar_model.specs.Grammar.{rule_at}
use Rattle.grammar_core.specs.Written.{IsWritten}
use Rattle.recognizer_model.specs.Flat.{FlatRule}
use Rattle.recognizer_model.specs.declared.flat.FlatSymbol.{FlatSymbol}
use Rattle.recognizer_model.specs.declared.flat.FlatSymbol.TheVariants.{Sequence}
use Rattle.flat_model.specs.Flatten.{Decided, rules_of}
use Rattle.flat_rules.specs.Tables.{numbered_in}
use Rattle.flat_rules.specs.Added.{from_symbols, items_by, counts_separator}
use Rattle.flat_rules.proofs.Adding.{adds_to, loop_stop, loop_next, loop_end, at_map}
use Rattle.flat_rules.proofs.Deciding.{decided_of}
use Rattle.flat_rules.proofs.SymbolRules.{lists_known, items_of}
use Rattle.flat_rules.proofs.flattening.push_lists.Goals as goal

pub push_items-requires-clause-rule : goal.push_items-requires-clause-rule
push_items-requires-clause-rule c =
    let d : Decided c.args.c.now = decided_of c.args.c.now (subst IsWritten c.written.ensures c.known.ensures) c.tested.ensures in
    (lists_known c.args.c.now d c.lists-lists.result.now c.loop-i.i-index (c.lists-lists.ensures ∙ c.requires.lists d) c.loop-i-test.true).0

pub push_items-requires-clause-sequence : goal.push_items-requires-clause-sequence
push_items-requires-clause-sequence c =
    let d : Decided c.args.c.now = decided_of c.args.c.now (subst IsWritten c.written.ensures c.known.ensures) c.tested.ensures in
    (lists_known c.args.c.now d c.lists-lists.result.now c.loop-i.i-index (c.lists-lists.ensures ∙ c.requires.lists d) c.loop-i-test.true).1

pub returns-in_err-push_items : goal.returns-in_err-push_items
returns-in_err-push_items c = λ d.
    let g : FlatSymbol → List FlatRule = λ x. map (numbered_in c.args.symbols.now) (rules_of c.args.c.now d x) in
    let xs = c.lists-lists.result.now in
    let i = get_or xs c.loop-i.i-index 0 in
    let known = lists_known c.args.c.now d xs c.loop-i.i-index (c.lists-lists.ensures ∙ c.requires.lists d) c.loop-i-test.true in
    let (lt, is) = at_map Sequence xs c.loop-i.i-index 0 c.loop-i-test.true in
    adds_to c.args.rules.now.items c.push_items.new.rules.items (from_symbols c.args.c.now d c.args.symbols.now (map Sequence xs)) (from_symbols c.args.c.now d c.args.symbols.now (map Sequence c.args.symbols.now.lists)) c.from_residual.result
    (ap (λ l. from_symbols c.args.c.now d c.args.symbols.now (map Sequence l)) c.lists-lists.ensures)
    (loop_stop g (map Sequence xs) c.loop-i.i-index (Sequence i) c.args.rules.now.items c.loop-i.rules.items c.push_items.new.rules.items c.push_items.new.rules.items c.in_err-push_items.field-0.0 c.from_residual.result lt is c.from_residual.ensures.1 (c.loop-i.invariant d)
    (adds_to {T = Unit {0}} c.loop-i.rules.items c.push_items.new.rules.items (items_by c.args.symbols.now i (counts_separator d (rule_at c.args.c.now i)) (rule_at c.args.c.now i)) (g (Sequence i)) (Err c.in_err-push_items.field-0.0)
    (items_of c.args.c.now d c.args.symbols.now i known.1) (c.in_err-push_items.ensures d)))

pub loop-i-preserved : goal.loop-i-preserved
loop-i-preserved c = λ d.
    let g : FlatSymbol → List FlatRule = λ x. map (numbered_in c.args.symbols.now) (rules_of c.args.c.now d x) in
    let xs = c.lists-lists.result.now in
    let i = get_or xs c.loop-i.i-index 0 in
    let known = lists_known c.args.c.now d xs c.loop-i.i-index (c.lists-lists.ensures ∙ c.requires.lists d) c.loop-i-test.true in
    let (lt, is) = at_map Sequence xs c.loop-i.i-index 0 c.loop-i-test.true in
    loop_next g (map Sequence xs) c.loop-i.i-index (Sequence i) c.args.rules.now.items c.loop-i.rules.items c.push_items.new.rules.items lt is (c.loop-i.invariant d)
    (adds_to {T = Unit {0}} c.loop-i.rules.items c.push_items.new.rules.items (items_by c.args.symbols.now i (counts_separator d (rule_at c.args.c.now i)) (rule_at c.args.c.now i)) (g (Sequence i)) (Ok tt)
    (items_of c.args.c.now d c.args.symbols.now i known.1) (c.in_ok-push_items.ensures d))

pub returns : goal.returns
returns c = λ d.
    let g : FlatSymbol → List FlatRule = λ x. map (numbered_in c.args.symbols.now) (rules_of c.args.c.now d x) in
    let xs = c.lists-lists.result.now in
    let long = length-map xs Sequence in
    let le : length (map Sequence xs) ≤ c.loop-i.i-index = omega (arith, long, c.loop-i-test.false) in
    adds_to {T = Unit {0}} c.args.rules.now.items c.loop-i.rules.items (from_symbols c.args.c.now d c.args.symbols.now (map Sequence xs)) (from_symbols c.args.c.now d c.args.symbols.now (map Sequence c.args.symbols.now.lists)) (Ok tt)
    (ap (λ l. from_symbols c.args.c.now d c.args.symbols.now (map Sequence l)) c.lists-lists.ensures)
    (loop_end g (map Sequence xs) c.loop-i.i-index c.args.rules.now.items c.loop-i.rules.items le (c.loop-i.invariant d))
