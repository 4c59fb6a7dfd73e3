use Rattle.std.proofs.Common.{◌≢◌, ℕ, zero, suc, Option, Some, None}
use Rattle.std.specs.Prelude.{AllPairs}
use Rattle.grammar_core.proofs.Chains.{AreListedFrom}
use Rattle.grammar_core.proofs.long.list_chain.Given as goal

abbrev pub invariant-loop-next : goal.invariant-loop-next
invariant-loop-next l = record {
  listed : AreListedFrom l.links l.fn.place l.fn.edges.items l.edges.items l.next;
  once : AllPairs (λ d e. d ≢ e) l.edges.items;
}

-- one more than the number that is next
abbrev left_of : Option ℕ → ℕ
left_of None = zero
left_of (Some number) = suc number

abbrev pub decreases-loop-next : goal.decreases-loop-next
decreases-loop-next l = left_of l.next
