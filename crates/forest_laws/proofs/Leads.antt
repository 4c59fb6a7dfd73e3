-- The alternative that stands for a child list.
use Rattle.std.proofs.Common.{◌≡◌, ℕ, map, inl, inr, ◌⊎◌, sym, ap, subst}
use Rattle.finite_sets.proofs.Members.{Among, among_from, contains_from, among_map_from, among_flat_map_from}
use Rattle.grammar_model.specs.Trees.{Tree, Leaf, Nulled, Node, Child, from_of}
use Rattle.forest_model.specs.Forest.{Cause, AnEdge, Nothing, Wholes, Forest}
use Rattle.std.specs.Prelude.{slice_get}
use Rattle.forest_laws.specs.Lists.{Lists, cause_symbol, rule_of, prefixes_by, causes_by, alternative_by, whole_by}
use Rattle.forest_laws.specs.Leads.{NodesLead}

only : {X : Type 0} (x t : X) → (x ≡ t) ⊎ ⊥ → x ≡ t
only x t (inl e) = e
only x t (inr b) = absurd b

cause_from : (f : Forest) (lists : Lists) (symbol start end : ℕ) (cause : Cause) (t : Tree) → Among t (causes_by f lists symbol start end cause) → start ≡ from_of t
cause_from f lists symbol start end AnEdge t m = ap from_of (only (Leaf symbol start end) t m)
cause_from f lists symbol start end Nothing t m = ap from_of (only (Nulled symbol start) t m)
cause_from f lists symbol start end (Wholes nodes) t m =
    let (n, in_nodes, own) = among_flat_map_from (whole_by f lists start end) t nodes m in
    let (cs, in_lists, is) = among_map_from (λ children. Node (rule_of (slice_get f.nodes n)) children start end) t (lists n) own in
    ap from_of is

pub nodes_lead : NodesLead
nodes_lead f lists are n node children at held =
    let symbol : ℕ = cause_symbol f node.key in
    let m = subst (λ l. Among children l) (are n node at) (among_from (lists n) children held) in
    let (a, in_row, own) = among_flat_map_from (alternative_by f lists (cause_symbol f node.key) node.key.end) children node.alternatives m in
    let (prefix, before, of) = among_flat_map_from (λ prefix. map (Child prefix) (causes_by f lists (cause_symbol f node.key) a.start node.key.end a.cause)) children (prefixes_by lists a.predecessor) own in
    let (last, in_cause, is) = among_map_from (Child prefix) children (causes_by f lists (cause_symbol f node.key) a.start node.key.end a.cause) of in
    record {
      prefix = prefix;
      last = last;
      is = sym is;
      alternative = a;
      among = contains_from node.alternatives a in_row;
      start = cause_from f lists (cause_symbol f node.key) a.start node.key.end a.cause last in_cause;
      before = contains_from (prefixes_by lists a.predecessor) prefix before;
      cause = contains_from (causes_by f lists (cause_symbol f node.key) a.start node.key.end a.cause) last in_cause;
    }
