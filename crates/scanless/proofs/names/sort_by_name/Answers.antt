use Rattle.std.proofs.Common.{rules, of_calls, ◌≡◌}
use Rattle.std.specs.Ordering.{is_lt}
use Rattle.std.proofs.lemmas.Fn.{always_returns_same}
use Rattle.std.proofs.lemmas.Result.{on_ok_weaker}
use Rattle.std.proofs.lemmas.List.Sorted.{Contains-permutation, IsPermutation-sym}
use Rattle.finite_sets.proofs.Clauses.{on_ok}
use Rattle.scanless.proofs.Naming.{by_name, name_ranks, strictly_by_name}
use Rattle.scanless.proofs.names.sort_by_name.Goals as goal

pub returns-clause-sorted : goal.returns-clause-sorted
returns-clause-sorted c =
    on_ok_weaker c.sort_by.result
    (λ up. strictly_by_name c.args.p.now c.in_order.ensures c.args.symbols.now.items c.sort_by.new.self.items c.requires.lexemes c.requires.order c.sort_by.ensures.permutation
    (up (λ x y. is_lt (by_name c.args.p.now x y)) (name_ranks c.args.p.now) (always_returns_same _ (λ a r. is_lt r ≡ is_lt (by_name c.args.p.now a.0.now a.1.0.now)) _ (λ a r f k. search (rules, of_calls)))))
    c.sort_by.ensures.sorted

pub returns-clause-same : goal.returns-clause-same
returns-clause-same c =
    let p = c.sort_by.ensures.permutation in
    on_ok c.sort_by.result (λ s. (
      Contains-permutation c.sort_by.new.self.items c.args.symbols.now.items s (IsPermutation-sym c.args.symbols.now.items c.sort_by.new.self.items p),
      Contains-permutation c.args.symbols.now.items c.sort_by.new.self.items s p,
    ))
