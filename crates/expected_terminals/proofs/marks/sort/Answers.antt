use Rattle.std.proofs.lemmas.List.Sorted.{Contains-permutation, IsPermutation-sym}
use Rattle.item_rows.proofs.Packing.{sorted_rises}
use Rattle.expected_terminals.proofs.marks.sort.Goals as goal

pub returns-clause-order : goal.returns-clause-order
returns-clause-order c = sorted_rises c.args.terminals.now.items c.sort_unstable.new.self.items c.requires c.sort_unstable.ensures.permutation c.sort_unstable.ensures.sorted

pub returns-clause-same : goal.returns-clause-same
returns-clause-same c t =
    let moved = c.sort_unstable.ensures.permutation in (
      λ h. Contains-permutation c.sort_unstable.new.self.items c.args.terminals.now.items t (IsPermutation-sym c.args.terminals.now.items c.sort_unstable.new.self.items moved) h,
      λ h. Contains-permutation c.args.terminals.now.items c.sort_unstable.new.self.items t moved h,
    )
