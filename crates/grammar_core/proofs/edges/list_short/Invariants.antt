use Rattle.std.proofs.Common.{◌≢◌}
use Rattle.std.specs.Prelude.{AllPairs}
use Rattle.grammar_core.proofs.Listing.{AreShortTo}
use Rattle.grammar_core.proofs.edges.list_short.Given as goal

abbrev pub invariant-loop-edge : goal.invariant-loop-edge
invariant-loop-edge l = record {
  listed : AreShortTo l.begun l.place l.initial.edges.items l.edges.items l.edge-index;
  once : AllPairs (λ d e. d ≢ e) l.edges.items;
}
