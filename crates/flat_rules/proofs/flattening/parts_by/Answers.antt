use Rattle.std.proofs.Common.{◌≤◌, length, sym, ◌∙◌, ap, subst, arith}
use Rattle.grammar_model.specs.Grammar.{Grammar}
use Rattle.grammar_model.specs.declared.limits.TheConstants.{MOST_FLAT_RULES}
use Rattle.grammar_core.specs.Written.{IsWritten}
use Rattle.flat_model.specs.Flatten.{Decided}
use Rattle.flat_rules.proofs.Agreeing.{err_many, tops_as, tops_within, count_symbols}
use Rattle.flat_rules.proofs.Deciding.{decided_of}
use Rattle.flat_rules.proofs.flattening.parts_by.Goals as goal

pub returns-in_err-rules-clause-many : goal.returns-in_err-rules-clause-many
returns-in_err-rules-clause-many c = err_many c.args.c.now c.from_residual.result c.in_err-rules.field-0.0 c.from_residual.ensures.1 c.in_err-rules.ensures

pub top_rules-requires-clause-count : goal.top_rules-requires-clause-count
top_rules-requires-clause-count c =
    let d : Decided c.args.c.now = decided_of c.args.c.now (subst IsWritten c.written-w.ensures c.start_count-starts.ensures.sound) c.tested.ensures in
    tops_within c.args.c.now d c.deref.result.now c.start_count-starts.result (c.deref.ensures.value ∙ (c.in_ok-rules.ensures d).0) (c.start_count-starts.ensures.count ∙ ap (λ (g : Grammar). length g.starts) c.written-w.ensures)

pub top_rules-requires-clause-small : goal.top_rules-requires-clause-small
top_rules-requires-clause-small c =
    let d : Decided c.args.c.now = decided_of c.args.c.now (subst IsWritten c.written-w.ensures c.start_count-starts.ensures.sound) c.tested.ensures in
    let same = ap length (c.deref.ensures.value ∙ (c.in_ok-rules.ensures d).0) in
    omega (arith, same, (c.in_ok-rules.ensures d).1)

pub returns-clause-flat : goal.returns-clause-flat
returns-clause-flat c = λ d.
    let tops = tops_as c.args.c.now d c.in_ok-tops.tops.items c.deref.result.now c.start_count-starts.result (c.deref.ensures.value ∙ (c.in_ok-rules.ensures d).0) (c.start_count-starts.ensures.count ∙ ap (λ (g : Grammar). length g.starts) c.written-w.ensures) c.in_ok-tops.ensures in
    λ z. record { symbols = c.in_ok-symbols.ensures.list d z; nullable = c.in_ok-symbols.ensures.marks d z; rules = (c.in_ok-rules.ensures d).0 z; tops = tops z }

pub returns-clause-few : goal.returns-clause-few
returns-clause-few c =
    let d : Decided c.args.c.now = decided_of c.args.c.now (subst IsWritten c.written-w.ensures c.start_count-starts.ensures.sound) c.tested.ensures in
    subst (λ l. length l ≤ MOST_FLAT_RULES) (sym (c.in_ok-rules.ensures d).0) (c.in_ok-rules.ensures d).1

pub returns-clause-small : goal.returns-clause-small
returns-clause-small c =
    let d : Decided c.args.c.now = decided_of c.args.c.now (subst IsWritten c.written-w.ensures c.start_count-starts.ensures.sound) c.tested.ensures in
    let count = count_symbols c.args.c.now d c.args.numbers.now c.requires.numbers in
    let same = ap length (c.in_ok-symbols.ensures.list d) in
    omega (arith, count, same, c.requires.numbers.small)
