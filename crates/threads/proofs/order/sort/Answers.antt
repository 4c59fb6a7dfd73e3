use Rattle.std.proofs.Common.{rules}
use Rattle.std.proofs.lemmas.List.Sorted.{IsNonDecreasingBy-from_sort_by_key, Contains-permutation, IsPermutation-sym}
use Rattle.threads.specs.Order.{awaited}
use Rattle.threads.proofs.order.sort.Goals as goal

pub returns-clause-order : goal.returns-clause-order
returns-clause-order c = IsNonDecreasingBy-from_sort_by_key (awaited c.args.flat.now) _ c.sort_unstable_by_key.ensures.sorted (λ a r q k. search rules)

pub returns-clause-same : goal.returns-clause-same
returns-clause-same c =
    let p = c.sort_unstable_by_key.ensures.permutation in
    λ th. (
      Contains-permutation c.sort_unstable_by_key.new.self.items c.args.threads.now.items th (IsPermutation-sym c.args.threads.now.items c.sort_unstable_by_key.new.self.items p),
      Contains-permutation c.args.threads.now.items c.sort_unstable_by_key.new.self.items th p,
    )
