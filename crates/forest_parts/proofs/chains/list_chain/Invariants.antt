use Rattle.std.proofs.Common.{◌≡◌, ◌++◌, ℕ, List, slice_index_or}
use Rattle.forest_parts.specs.Chains.{IsChain}
use Rattle.forest_parts.proofs.chains.list_chain.Given as goal

abbrev pub invariant-chain : goal.invariant-chain
invariant-chain l = (ns : List ℕ) → IsChain l.chains.below.items (slice_index_or l.chains.heads.items l.end 0) ns →
    (rest : List ℕ) × IsChain l.chains.below.items l.head rest × (ns ≡ l.nodes.items ++ rest)

abbrev pub decreases-chain : goal.decreases-chain
decreases-chain l = l.head
