use Rattle.std.proofs.Common.{◌≡◌, ◌++◌, Some, length, subst, ◌∙◌, arith, ap}
use Rattle.forest_model.specs.Forest.{Forest}
use Rattle.forest_model.specs.Listing.{IsListing}
use Rattle.tree_iter.specs.Iteration.{Iteration, IsAnswer, AreFew}
use Rattle.value_lines.proofs.Counting.{counts_all, counts_most, none_counted, one_more_counted, all_counted, enough_counted}
use Rattle.value_lines.proofs.counts.count_derivations.Goals as goal

pub returns-then-not-branch-clause-count : goal.returns-then-not-branch-clause-count
returns-then-not-branch-clause-count g c =
    λ trees l.
    let w = c.loop-count.invariant.counted in
    let answer = subst (IsAnswer c.next.new.self w.given) c.if-not-branch.true (c.in_ok-next.ensures.answer w.given w.are) in
    let all = subst (λ (f : Forest). IsListing f w.given) (c.in_ok-next.ensures.forest ∙ c.loop-count.invariant.forest) answer in
    let within = c.loop-count-test.true in
    counts_all c.args.forest.now 4294967295 w.given trees c.loop-count.count all l w.count_is (omega (arith, within))

pub returns-then-not-branch-clause-counted : goal.returns-then-not-branch-clause-counted
returns-then-not-branch-clause-counted g c =
    let w = c.loop-count.invariant.counted in
    let answer = subst (IsAnswer c.next.new.self w.given) c.if-not-branch.true (c.in_ok-next.ensures.answer w.given w.are) in
    let few = subst (λ b. AreFew c.next.new.self w.given b c.loop-count.steps c.next.new.steps) c.if-not-branch.true (c.in_ok-next.ensures.few w.given w.are) in
    let within = c.loop-count-test.true in
    all_counted c.args.forest.now (Some 4294967295) c.loop-count.iter c.next.new.self (c.in_ok-next.ensures.forest ∙ c.loop-count.invariant.forest) c.loop-count.count _ _ _ w answer few (omega (arith, within))

pub loop-count-init : goal.loop-count-init
loop-count-init g c = record { counted = none_counted c.in_ok-iter.iter c.args.steps.now c.in_ok-iter.ensures.none; forest = ap (λ (it : Iteration). it.forest) c.in_ok-iter.ensures.begun }

pub loop-count-preserved : goal.loop-count-preserved
loop-count-preserved g c =
    let w = c.loop-count.invariant.counted in
    let (tree, more, stands) = subst (IsAnswer c.next.new.self w.given) c.if-not-branch.false (c.in_ok-next.ensures.answer w.given w.are) in
    let few = subst (λ b. AreFew c.next.new.self w.given b c.loop-count.steps c.next.new.steps) c.if-not-branch.false (c.in_ok-next.ensures.few w.given w.are) in
    record {
      counted = one_more_counted c.loop-count.iter c.next.new.self c.loop-count.count _ _ _ w tree more few;
      forest = c.in_ok-next.ensures.forest ∙ c.loop-count.invariant.forest;
    }

pub returns-clause-count : goal.returns-clause-count
returns-clause-count g c =
    λ trees l.
    let w = c.loop-count.invariant.counted in
    let first = subst (λ (f : Forest). IsListing f (w.given ++ w.are.first.rest)) c.loop-count.invariant.forest w.are.first.listing in
    let past = c.loop-count-test.false in
    let end = c.loop-count.auto.count-end in
    let len = w.count_is in
    let is : length w.given ≡ 4294967295 = omega (arith, len, past, end) in
    counts_most c.args.forest.now 4294967295 w.given w.are.first.rest trees first l is

pub returns-clause-counted : goal.returns-clause-counted
returns-clause-counted g c =
    let past = c.loop-count-test.false in
    let end = c.loop-count.auto.count-end in
    let is : 4294967295 ≡ c.loop-count.count = omega (arith, past, end) in
    enough_counted c.args.forest.now (Some 4294967295) c.loop-count.iter c.loop-count.invariant.forest c.loop-count.count _ _ c.loop-count.invariant.counted (ap Some is)
