-- Where a derivation's own choices lie: of a node's alternatives, that which begins where the last child does; of a cause's nodes, that of
-- the rule.
use Rattle.std.specs.Prelude.{◌≡◌, ℕ, Some, slice_get, Contains}
use Rattle.grammar_model.specs.Trees.{Tree, Children, Child, from_of}
use Rattle.forest_model.specs.Forest.{Alternative, ForestNode, Forest}
use Rattle.forest_laws.specs.Lists.{Lists, AreLists, cause_symbol, prefixes_by, causes_by}

-- the alternative stands for the child list: its predecessor for all but the last child, and its cause for that
pub record IsLed (f : Forest) (lists : Lists) (node : ForestNode) (children : Children) : Type 0 where
  pub prefix : Children
  pub last : Tree
  pub is : children ≡ Child prefix last
  pub alternative : Alternative
  pub among : Contains node.alternatives alternative
  pub start : alternative.start ≡ from_of last
  pub before : Contains (prefixes_by lists alternative.predecessor) prefix
  pub cause : Contains (causes_by f lists (cause_symbol f node.key) alternative.start node.key.end alternative.cause) last

abbrev pub NodesLead : Type 0
NodesLead = (f : Forest) (lists : Lists) → AreLists f lists → (n : ℕ) (node : ForestNode) (children : Children) → slice_get f.nodes n ≡ Some node → Contains (lists n) children →
    IsLed f lists node children
