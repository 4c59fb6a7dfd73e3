use Rattle.std.proofs.Common.{ℕ, ◌↔◌, ◌⊎◌, ◌≡◌, Contains, Err, sym, subst}
use Rattle.std.specs.List.{insert}
use Rattle.std.specs.List.Sorted.{IsStrictlySortedBy, IsBinarySearchResult}
use Rattle.std.specs.Ordering.{nat_cmp}
use Rattle.scanless.proofs.Inserting.{put_sorted, put_exact}
use Rattle.scanless.proofs.Results.{when_ok}
use Rattle.scanless.proofs.kept.insert.Goals as goal

pub returns-in-Err-clause-sorted : goal.returns-in-Err-clause-sorted
returns-in-Err-clause-sorted c =
    let xs = c.args.symbols.now.items in
    let x = c.args.symbol in
    let i = c.in-Err.place in
    let place : IsBinarySearchResult (λ y. nat_cmp y x) xs (Err i) = subst (λ l. IsBinarySearchResult (λ y. nat_cmp y x) l (Err i)) c.deref.ensures.value c.in-Err.ensures.position in
    when_ok c.insert.result (insert xs i x) xs c.insert.new.self.items (IsStrictlySortedBy nat_cmp c.insert.new.self.items) c.insert.ensures.items (λ e. subst (IsStrictlySortedBy nat_cmp) (sym e) (put_sorted xs x i c.requires place))

pub returns-in-Err-clause-exact : goal.returns-in-Err-clause-exact
returns-in-Err-clause-exact c =
    let xs = c.args.symbols.now.items in
    let x = c.args.symbol in
    let i = c.in-Err.place in
    let place : IsBinarySearchResult (λ y. nat_cmp y x) xs (Err i) = subst (λ l. IsBinarySearchResult (λ y. nat_cmp y x) l (Err i)) c.deref.ensures.value c.in-Err.ensures.position in
    when_ok c.insert.result (insert xs i x) xs c.insert.new.self.items ((s : ℕ) → Contains c.insert.new.self.items s ↔ (Contains xs s ⊎ (s ≡ x))) c.insert.ensures.items (λ e s. subst (λ l. Contains l s ↔ (Contains xs s ⊎ (s ≡ x))) (sym e) (put_exact xs x i c.requires place s))
