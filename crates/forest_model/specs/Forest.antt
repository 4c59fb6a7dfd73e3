-- The shared packed forest of a reading. A node stands for all chosen ways to derive a prefix of a flat rule over a span, of one part
-- or more. Its alternatives say where the last of these parts may begin; each has a predecessor, the node of the parts before, and a
-- cause, which is what the last part is: an edge, a symbol that spans nothing, or the nodes of whole rules. Each node is there once,
-- whatever uses it.
-- Source: the Libmarpa manual (the bocage, with its or-nodes and and-nodes).
use Rattle.std.specs.Prelude.{◌≡◌, ℕ, suc, ◌<◌, ◌↔◌, Bool, ◌==◌, if◌then◌else◌, List, [], length, map, Option, Some, None, slice_get, slice_index_or, Contains}
use Rattle.std.specs.List.Sorted.{IsStrictlySortedBy}
use Rattle.std.specs.declared.cmp.Ordering.{Ordering}
use Rattle.std.specs.Ordering.{ordering_then, nat_cmp}
use Rattle.grammar_model.specs.declared.Edge.{Edge}
use Rattle.grammar_model.specs.declared.Ranking.{Ranking}
use Rattle.grammar_model.specs.Grammar.{Grammar}
use Rattle.grammar_model.specs.Trees.{Tree, Children}
use Rattle.grammar_model.specs.Derives.{Edges, Held}
use Rattle.grammar_model.specs.Checked.{IsChecked}
use Rattle.recognizer_model.specs.declared.NodeKey.{NodeKey}
use Rattle.recognizer_model.specs.Flat.{FlatGrammar, IsRule, lhs_of, rhs_of, part_of, IsNullable}
use Rattle.recognizer_model.specs.FlatForm.{IsFlatOf, FlatEdges, flat_order}
use Rattle.recognizer_model.specs.FlatDerives.{Derives, Spans}
use Rattle.recognizer_model.specs.Invariant.{IsFlat}
use Rattle.recognizer_model.specs.Chosen.{Allowed, allowed_by}
use Rattle.recognizer_model.specs.Nodes.{IsUsed}
use Rattle.recognizer_model.specs.Counts.{IsListOf}

-- the cause of an alternative: what the last part is; nodes are told by their numbers, in the order of their rules
pub data Cause : Type 0 where
  AnEdge : Cause
  Nothing : Cause
  Wholes : (nodes : List ℕ) → Cause

-- where the last part begins, the node of the parts before, if there are any, and the cause
pub record Alternative : Type 0 where
  pub start : ℕ
  pub predecessor : Option ℕ
  pub cause : Cause

-- a node, with its alternatives in order
pub record ForestNode : Type 0 where
  pub key : NodeKey
  pub alternatives : List Alternative

-- a forest, with the reading whose derivations it has: a written grammar and its flat one, the place of the start among the
-- starts, the edges, and the place where they end; the root is the whole, if that has a node
pub record Forest : Type 0 where
  pub written : Grammar
  pub flat : FlatGrammar
  pub start : ℕ
  pub edges : List Edge
  pub place : ℕ
  pub ranking : Ranking
  pub nodes : List ForestNode
  pub root : Option ℕ

abbrev pub edges_of : Forest → Edges
edges_of f = FlatEdges f.flat (Held f.edges)

-- which rules the ranking allows
abbrev pub allowed_of : Forest → Allowed
allowed_of f = allowed_by f.written f.ranking f.flat (edges_of f)

-- the rule of the start's top
abbrev pub top_of : Forest → ℕ
top_of f = slice_index_or f.flat.tops f.start 0

-- the node of this number has the key
abbrev pub IsNode : Forest → ℕ → NodeKey → Type 0
IsNode f n k = (node : ForestNode) × (slice_get f.nodes n ≡ Some node) × (node.key ≡ k)

-- THE ORDER OF ALTERNATIVES

-- a cause that spans nothing stands before all others or after them
abbrev pub start_place : Bool → (start end : ℕ) → ℕ
start_place high start end = if start == end then (if high then 0 else 2) else 1

-- the later start first
abbrev pub starts_cmp : Bool → (end start other : ℕ) → Ordering
starts_cmp high end start other = ordering_then (nat_cmp (start_place high start end) (start_place high other end)) (nat_cmp other start)

abbrev pub ranks_high : Forest → (rule : ℕ) → Bool
ranks_high f r = (flat_order f.written f.ranking f.flat).null_high r

-- flat rules of one left side
abbrev pub rules_cmp : Forest → (rule other : ℕ) → Ordering
rules_cmp f r s = (flat_order f.written f.ranking f.flat).cmp r (length (rhs_of f.flat r)) s (length (rhs_of f.flat s))

-- WHAT A NODE HAS

abbrev pub whole_key : Forest → (rule origin end : ℕ) → NodeKey
whole_key f r p q = record { rule = r; dot = length (rhs_of f.flat r); origin = p; end = q }

-- the parts before derive what lies before m, and the symbol derives m to q
pub record IsSplit (f : Forest) (rule dot origin symbol m q : ℕ) : Type 0 where
  pub children : Children
  pub predecessor : Spans f.flat (edges_of f) rule dot origin m children
  pub tree : Tree
  pub cause : Derives f.flat (edges_of f) symbol m q tree

-- the rule derives the span as a whole
pub record IsWholeOver (f : Forest) (symbol p q rule : ℕ) : Type 0 where
  pub is_rule : IsRule f.flat rule
  pub left : lhs_of f.flat rule ≡ symbol
  pub children : Children
  pub spans : Spans f.flat (edges_of f) rule (length (rhs_of f.flat rule)) p q children

-- the nodes of the allowed rules of the symbol that derive the span, one or more, in the order of the rules
pub record AreWholes (f : Forest) (symbol p q : ℕ) (nodes : List ℕ) : Type 0 where
  pub spans : p < q
  pub some : 0 < length nodes
  pub rules : List ℕ
  pub sorted : IsStrictlySortedBy (rules_cmp f) rules
  pub exact : (r : ℕ) → Contains rules r ↔ (IsWholeOver f symbol p q r × allowed_of f r p q)
  pub all : length nodes ≡ length rules
  pub each : (i n r : ℕ) → slice_get nodes i ≡ Some n → slice_get rules i ≡ Some r → IsNode f n (whole_key f r p q)

-- the cause is what derives the symbol over the span
abbrev pub IsCause : Forest → (symbol m q : ℕ) → Cause → Type 0
IsCause f symbol m q AnEdge = edges_of f symbol m q
IsCause f symbol m q Nothing = (m ≡ q) × IsNullable f.flat symbol
IsCause f symbol m q (Wholes nodes) = AreWholes f symbol m q nodes

-- the predecessor is the node of so many parts, if there are any
abbrev pub IsPredecessor : Forest → (rule dot origin m : ℕ) → Option ℕ → Type 0
IsPredecessor f rule dot origin m None = (dot ≡ 0) × (m ≡ origin)
IsPredecessor f rule dot origin m (Some n) = (0 < dot) × IsNode f n (record { rule = rule; dot = dot; origin = origin; end = m })

-- an alternative of the node of one part more, which is the symbol
pub record IsAlternative (f : Forest) (rule dot origin symbol q : ℕ) (a : Alternative) : Type 0 where
  pub predecessor : IsPredecessor f rule dot origin a.start a.predecessor
  pub cause : IsCause f symbol a.start q a.cause

-- all starts that the last of the parts has, each once, in order
pub record AreAlternatives (f : Forest) (key : NodeKey) (alternatives : List Alternative) : Type 0 where
  pub dot : ℕ
  pub dot_is : key.dot ≡ suc dot
  pub symbol : ℕ
  pub part : part_of f.flat key.rule dot ≡ Some symbol
  pub sorted : IsStrictlySortedBy (starts_cmp (ranks_high f key.rule) key.end) (map (λ a. a.start) alternatives)
  pub exact : (m : ℕ) → Contains (map (λ a. a.start) alternatives) m ↔ IsSplit f key.rule dot key.origin symbol m key.end
  pub each : (a : Alternative) → Contains alternatives a → IsAlternative f key.rule dot key.origin symbol key.end a

-- THE FOREST

-- a reading with a derivation: of a checked grammar, by its flat grammar, over edges that go forward
pub record IsDerived (f : Forest) : Type 0 where
  pub checked : IsChecked f.written
  pub flat : IsFlat f.flat
  pub flat_of : IsFlatOf f.flat f.written
  pub start : f.start < length f.flat.tops
  pub forward : (e : Edge) → Contains f.edges e → e.from < e.to
  pub tree : Tree
  pub derives : Derives f.flat (edges_of f) (lhs_of f.flat (top_of f)) 0 f.place tree

-- no place, no root; else the root is the start's top over the whole
abbrev pub IsRoot : Forest → Option ℕ → Type 0
IsRoot f None = f.place ≡ 0
IsRoot f (Some n) = (0 < f.place) × IsNode f n (whole_key f (top_of f) 0 f.place)

-- it has exactly the nodes that its chosen derivations use, each once, each with all its alternatives
pub record IsForest (f : Forest) : Type 0 where
  pub derived : IsDerived f
  pub used : IsListOf (IsUsed f.flat (edges_of f) (allowed_of f) (top_of f) f.place) (map (λ n. n.key) f.nodes)
  pub alternatives : (n : ForestNode) → Contains f.nodes n → AreAlternatives f n.key n.alternatives
  pub root : IsRoot f f.root
