use Rattle.std.proofs.Common.{sym, arith, ◌∙◌}
use Rattle.std.proofs.lemmas.Option.{same_Some}
use Rattle.begun_lists.proofs.awaited.awaited.Goals as goal

pub returns-then-rules-clause-some : goal.returns-then-rules-clause-some
returns-then-rules-clause-some c =
    let lt = c.if-rules.true in
    let (rule, l) = (c.rules_of-rules.ensures c.rules_of-rules.result.start).0 (omega arith, lt) in
    (sym c.in_ok-symbol.ensures.value, (c.rules_of-rules.result.start, rule, l))

pub returns-else-rules-clause-none : goal.returns-else-rules-clause-none
returns-else-rules-clause-none c = λ none x e (r, rule, l).
    let same = same_Some _ _ (c.in_ok-symbol.ensures.value ∙ e) in
    let (lo, hi) = (c.rules_of-rules.ensures r).1 (rule, l ∙ sym same) in
    let le = c.if-rules.false in
    omega (arith, lo, hi, le)
