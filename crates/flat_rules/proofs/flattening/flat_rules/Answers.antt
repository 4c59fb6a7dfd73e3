use Rattle.std.proofs.Common.{◌≡◌, ◌++◌, [], List, map, length, sym, ◌∙◌, subst, append_assoc, Err, Ok}
use Rattle.std.proofs.lemmas.List.{append-nil}
use Rattle.grammar_model.specs.Grammar.{Grammar}
use Rattle.grammar_model.specs.Simple.{numbers}
use Rattle.recognizer_model.specs.Flat.{FlatRule}
use Rattle.recognizer_model.specs.declared.flat.FlatSymbol.TheVariants.{Sequence, Top}
use Rattle.flat_model.specs.Flatten.{Decided, symbol_for, flat_of}
use Rattle.flat_rules.specs.Added.{Adds, from_symbols}
use Rattle.flat_rules.proofs.Adding.{adds_two, all_err, all_ok}
use Rattle.flat_rules.proofs.Agreeing.{numbered_agree, parts_named}
use Rattle.flat_rules.proofs.flattening.flat_rules.Goals as goal

pub returns-in_err-push_slots : goal.returns-in_err-push_slots
returns-in_err-push_slots c = λ d.
    let w = c.args.c.now in
    let t = c.args.symbols.now in
    let a = from_symbols w d t (map (symbol_for w d) t.slots) in
    let b = from_symbols w d t (map Sequence t.lists) in
    let e = from_symbols w d t (map Top (numbers (length w.starts))) in
    let all : (flat_of w d).rules ≡ a ++ (b ++ e) = sym (parts_named w d t c.requires.numbers ∙ numbered_agree w d t c.requires.numbers c.known.ensures.checked) in
    all_err (Unit {0}) c.new-rules.result.items c.push_slots.new.rules.items a (b ++ e) (flat_of w d).rules c.in_err-push_slots.field-0.0 c.from_residual.result c.new-rules.ensures.items all c.from_residual.ensures.1 (c.in_err-push_slots.ensures d)

pub returns-in_err-push_lists : goal.returns-in_err-push_lists
returns-in_err-push_lists c = λ d.
    let w = c.args.c.now in
    let t = c.args.symbols.now in
    let a = from_symbols w d t (map (symbol_for w d) t.slots) in
    let b = from_symbols w d t (map Sequence t.lists) in
    let e = from_symbols w d t (map Top (numbers (length w.starts))) in
    let all : (flat_of w d).rules ≡ (a ++ b) ++ e = sym (append_assoc a b e ∙ parts_named w d t c.requires.numbers ∙ numbered_agree w d t c.requires.numbers c.known.ensures.checked) in
    let so_far = adds_two {T = Unit {0}} {U = Unit {0}} c.new-rules.result.items c.push_slots.new.rules.items c.push_lists.new.rules.items a b tt (Err c.in_err-push_lists.field-0.0) (c.in_ok-push_slots.ensures d) (c.in_err-push_lists.ensures d) in
    all_err (Unit {0}) c.new-rules.result.items c.push_lists.new.rules.items (a ++ b) e (flat_of w d).rules c.in_err-push_lists.field-0.0 c.from_residual-in_err-push_lists.result c.new-rules.ensures.items all c.from_residual-in_err-push_lists.ensures.1 so_far

pub returns-in_err-push_tops : goal.returns-in_err-push_tops
returns-in_err-push_tops c = λ d.
    let w = c.args.c.now in
    let t = c.args.symbols.now in
    let a = from_symbols w d t (map (symbol_for w d) t.slots) in
    let b = from_symbols w d t (map Sequence t.lists) in
    let e = from_symbols w d t (map Top (numbers (length w.starts))) in
    let none : List FlatRule = [] in
    let all : (flat_of w d).rules ≡ ((a ++ b) ++ e) ++ none = sym (append-nil ((a ++ b) ++ e) ∙ append_assoc a b e ∙ parts_named w d t c.requires.numbers ∙ numbered_agree w d t c.requires.numbers c.known.ensures.checked) in
    let so_far = adds_two {T = Unit {0}} {U = Unit {0}} c.new-rules.result.items c.push_slots.new.rules.items c.push_lists.new.rules.items a b tt (Ok tt) (c.in_ok-push_slots.ensures d) (c.in_ok-push_lists.ensures d) in
    let last = subst (λ (g : Grammar). (d : Decided g) → Adds {T = Unit {0}} c.push_lists.new.rules.items c.push_tops.new.rules.items (from_symbols g d t (map Top (numbers (length g.starts)))) (Err c.in_err-push_tops.field-0.0)) c.written.ensures c.in_err-push_tops.ensures in
    let whole = adds_two {T = Unit {0}} {U = Unit {0}} c.new-rules.result.items c.push_lists.new.rules.items c.push_tops.new.rules.items (a ++ b) e tt (Err c.in_err-push_tops.field-0.0) so_far (last d) in
    all_err (Unit {0}) c.new-rules.result.items c.push_tops.new.rules.items ((a ++ b) ++ e) none (flat_of w d).rules c.in_err-push_tops.field-0.0 c.from_residual-in_err-push_tops.result c.new-rules.ensures.items all c.from_residual-in_err-push_tops.ensures.1 whole

pub returns : goal.returns
returns c = λ d.
    let w = c.args.c.now in
    let t = c.args.symbols.now in
    let a = from_symbols w d t (map (symbol_for w d) t.slots) in
    let b = from_symbols w d t (map Sequence t.lists) in
    let e = from_symbols w d t (map Top (numbers (length w.starts))) in
    let all : (flat_of w d).rules ≡ (a ++ b) ++ e = sym (append_assoc a b e ∙ parts_named w d t c.requires.numbers ∙ numbered_agree w d t c.requires.numbers c.known.ensures.checked) in
    let so_far = adds_two {T = Unit {0}} {U = Unit {0}} c.new-rules.result.items c.push_slots.new.rules.items c.push_lists.new.rules.items a b tt (Ok tt) (c.in_ok-push_slots.ensures d) (c.in_ok-push_lists.ensures d) in
    let last = subst (λ (g : Grammar). (d : Decided g) → Adds {T = Unit {0}} c.push_lists.new.rules.items c.push_tops.new.rules.items (from_symbols g d t (map Top (numbers (length g.starts)))) (Ok tt)) c.written.ensures c.in_ok-push_tops.ensures in
    let whole = adds_two {T = Unit {0}} {U = Unit {0}} c.new-rules.result.items c.push_lists.new.rules.items c.push_tops.new.rules.items (a ++ b) e tt (Ok tt) so_far (last d) in
    all_ok {T = Unit {0}} c.new-rules.result.items c.push_tops.new.rules.items ((a ++ b) ++ e) (flat_of w d).rules tt c.new-rules.ensures.items all whole
