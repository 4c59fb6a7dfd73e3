use Rattle.std.proofs.Common.{◌≡◌, ◌↔◌, ℕ, Contains, None, Some, sym, subst, arith}
use Rattle.std.specs.Prelude.{option_copied, slice_index_or}
use Rattle.std.specs.List.Sorted.{IsStrictlySortedBy}
use Rattle.std.specs.Ordering.{nat_cmp}
use Rattle.std.proofs.lemmas.Result.{on_ok_weaker}
use Rattle.earley_sets.specs.Recognizer.{IsExpected}
use Rattle.reading_model.specs.Reading.{IsKept}
use Rattle.scanless.specs.Pieces.{IsHighestOf, IsFit}
use Rattle.scanless.proofs.Nexts.{next_is}
use Rattle.scanless.proofs.Choosing.{alone, rows_placed, kept_are, none_kept, one_kept}
use Rattle.scanless.proofs.kept.list_kept.Goals as goal
use Rattle.lexer.proofs.Sorted.{sorted_none}

pub highest-requires : goal.highest-requires
highest-requires c = rows_placed c.args.p.now c.lexemes-rows.result.now c.lexemes-rows.ensures c.in_order.ensures

pub keep_all-requires-clause-places : goal.keep_all-requires-clause-places
keep_all-requires-clause-places c = rows_placed c.args.p.now c.lexemes-rows.result.now c.lexemes-rows.ensures c.in_order.ensures

pub keep_one-requires-clause-places : goal.keep_one-requires-clause-places
keep_one-requires-clause-places c = rows_placed c.args.p.now c.lexemes-rows.result.now c.lexemes-rows.ensures c.in_order.ensures

pub returns-then-matched-eq1-clause-expected : goal.returns-then-matched-eq1-clause-expected
returns-then-matched-eq1-clause-expected c =
    on_ok_weaker c.keep_one.result (λ g s m. (let (r, k, fit, is) = (g s).0 m in subst (IsExpected c.args.recce.now) is fit.1)) c.keep_one.ensures.exact

pub returns-then-matched-eq1-clause-exact : goal.returns-then-matched-eq1-clause-exact
returns-then-matched-eq1-clause-exact c =
    on_ok_weaker c.keep_one.result
    (λ g text pieces at n holds by. one_kept c.args.p.now c.lexemes-rows.result.now c.lexemes-rows.ensures text pieces at n c.args.matched.now by c.args.recce.now
    (next_is c.args.p.now c.known.ensures.accepted.checked.structural pieces c.args.recce.now c.place-place.ensures.is holds) (slice_index_or c.args.matched.now 0 0) c.keep_one.new.kept.items
    (alone c.args.matched.now (omega arith)) (rows_placed c.args.p.now c.lexemes-rows.result.now c.lexemes-rows.ensures c.in_order.ensures) g)
    c.keep_one.ensures.exact

pub returns-in-Some-clause-expected : goal.returns-in-Some-clause-expected
returns-in-Some-clause-expected c =
    on_ok_weaker c.keep_all.result (λ g s m. (let (r, k, (fit, e), is) = (g s).0 m in subst (IsExpected c.args.recce.now) is fit.1)) c.keep_all.ensures.exact

pub returns-in-Some-clause-exact : goal.returns-in-Some-clause-exact
returns-in-Some-clause-exact c =
    let e : c.highest.result ≡ Some c.in-Some.row = cc in
    on_ok_weaker c.keep_all.result
    (λ g text pieces at n holds by. kept_are c.args.p.now c.lexemes-rows.result.now c.lexemes-rows.ensures text pieces at n c.args.matched.now by c.args.recce.now
    (next_is c.args.p.now c.known.ensures.accepted.checked.structural pieces c.args.recce.now c.place-place.ensures.is holds) c.in-Some.row.now c.keep_all.new.kept.items
    (subst (λ o. IsHighestOf (IsFit c.args.recce.now c.args.matched.now) c.lexemes-rows.result.now (option_copied o)) e c.highest.ensures) g)
    c.keep_all.ensures.exact

pub returns-in-None-clause-sorted : goal.returns-in-None-clause-sorted
returns-in-None-clause-sorted c = subst (IsStrictlySortedBy nat_cmp) (sym c.clear.ensures.items) sorted_none

pub returns-in-None-clause-exact : goal.returns-in-None-clause-exact
returns-in-None-clause-exact c = λ text pieces at n holds by.
    let e : c.highest.result ≡ None = cc in
    subst (λ kept. (symbol : ℕ) → Contains kept symbol ↔ IsKept c.args.p.now text pieces at n symbol) (sym c.clear.ensures.items)
    (none_kept c.args.p.now c.lexemes-rows.result.now c.lexemes-rows.ensures text pieces at n c.args.matched.now by c.args.recce.now
    (next_is c.args.p.now c.known.ensures.accepted.checked.structural pieces c.args.recce.now c.place-place.ensures.is holds)
    (subst (λ o. IsHighestOf (IsFit c.args.recce.now c.args.matched.now) c.lexemes-rows.result.now (option_copied o)) e c.highest.ensures))
