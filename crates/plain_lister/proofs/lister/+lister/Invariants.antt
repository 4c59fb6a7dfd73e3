use Rattle.std.proofs.Common.{◌≡◌, ◌≤◌, ◌+◌, ◌*◌, ◌-◌, ◌⊎◌, map}
use Rattle.std.specs.List.{flat_map}
use Rattle.grammar_model.specs.Simple.{places}
use Rattle.plain_lister.specs.Adding.{as_tree, as_prefix}
use Rattle.plain_lister.specs.Table.{IsBuilt, weight, nodes_below, prefixes_from}
use Rattle.plain_lister.proofs.lister.+lister.Given as goal

abbrev pub decreases-list_at : goal.decreases-list_at
decreases-list_at l = 2 * weight l.w.now l.x l.n l.p l.q + 1

abbrev pub decreases-nodes_at : goal.decreases-nodes_at
decreases-nodes_at l = 2 * weight l.w.now l.x 0 l.p l.q

abbrev pub decreases-firsts_at : goal.decreases-firsts_at
decreases-firsts_at l = 2 * weight l.w.now l.i 1 l.p l.q

abbrev pub decreases-pairs_at : goal.decreases-pairs_at
decreases-pairs_at l = 2 * weight l.w.now l.i l.n l.p l.q

abbrev pub invariant-nodes_at-loop-i : goal.invariant-nodes_at-loop-i
invariant-nodes_at-loop-i l = IsBuilt l.w l.input l.initial.store l.store l.out.items (map as_tree (nodes_below l.w l.input l.x l.p l.q l.i))

abbrev pub invariant-pairs_at-loop-r : goal.invariant-pairs_at-loop-r
invariant-pairs_at-loop-r l =
    ((l.p + (l.n - 1) ≤ l.r) ⊎ (l.r ≡ l.q)) × (l.p ≤ l.r) × (l.r ≤ l.q) × IsBuilt l.w l.input l.initial.store l.store l.out.items (map as_prefix (flat_map (prefixes_from l.w l.input l.i (l.n - 1) l.p l.q) (places l.r l.q)))

abbrev pub decreases-pairs_at-loop-r : goal.decreases-pairs_at-loop-r
decreases-pairs_at-loop-r l = l.r
