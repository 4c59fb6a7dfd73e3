-- What one pass over the nodes of a forest finds: where the first two choices of each lead, and which are the first of a group.
use Rattle.std.specs.Prelude.{◌≡◌, ℕ, Bool, List, [], ◌∷◌, map, length, Option, Some, None, slice_get, slice_set, Contains}
use Rattle.grammar_model.specs.declared.Ranking.TheVariants.{Rule as RuleRanks}
use Rattle.forest_model.specs.Forest.{Cause, Wholes, Alternative, ForestNode, Forest}
use Rattle.glade_laws.specs.Walks.{options, whole_nodes, HasSecond}
use Rattle.glades.specs.declared.links.Link.{Link}
use Rattle.glades.specs.declared.links.Link.TheVariants.{End, Next, Fork}

abbrev pub link_by : Option ℕ → Option ℕ → Link
link_by None fork = End
link_by (Some next) None = Next next
link_by (Some next) (Some fork) = Fork next fork

-- the first two of these
abbrev pub link_to : List ℕ → Link
link_to nodes = link_by (slice_get nodes 0) (slice_get nodes 1)

abbrev pub link_of : Forest → ForestNode → Link
link_of f node = link_to (options f node)

-- a forest by rules, and the links of its nodes
pub record AreLinks (f : Forest) (links : List Link) : Type 0 where
  pub by_rules : f.ranking ≡ RuleRanks
  pub links_are : links ≡ map (link_of f) f.nodes

-- ---- groups by their first nodes

-- of the first node of a group, the next one of it, if there is one; of another node nothing
abbrev pub Notes : Type 0
Notes = List (Option (Option ℕ))

abbrev pub noted_by : Option ℕ → Option ℕ → Notes → Notes
noted_by None next notes = notes
noted_by (Some n) next notes = slice_set notes n (Some next)

-- with the first node of a cause
abbrev pub noted : Cause → Notes → Notes
noted cause notes = noted_by (slice_get (whole_nodes cause) 0) (slice_get (whole_nodes cause) 1) notes

abbrev pub all_noted : List Alternative → Notes → Notes
all_noted [] notes = notes
all_noted (a ∷ more) notes = all_noted more (noted a.cause notes)

abbrev pub nodes_noted : List ForestNode → Notes → Notes
nodes_noted [] notes = notes
nodes_noted (node ∷ more) notes = nodes_noted more (all_noted node.alternatives notes)

-- the node begins the group that is the cause of an alternative, with this one next
pub record IsNote (f : Forest) (n : ℕ) (next : Option ℕ) : Type 0 where
  pub number : ℕ
  pub node : ForestNode
  pub there : slice_get f.nodes number ≡ Some node
  pub alternative : Alternative
  pub has : Contains node.alternatives alternative
  pub more : List ℕ
  pub cause : alternative.cause ≡ Wholes (n ∷ more)
  pub next_is : slice_get more 0 ≡ next

pub record AreNotes (f : Forest) (notes : Notes) : Type 0 where
  pub long : length notes ≡ length f.nodes
  pub sound : (n : ℕ) (next : Option ℕ) → slice_get notes n ≡ Some (Some next) → IsNote f n next
  pub all : (n : ℕ) (next : Option ℕ) → IsNote f n next → slice_get notes n ≡ Some (Some next)

-- ---- second choices

-- what is known of second choices on the walks from nodes
pub record AreKnown (f : Forest) (seconds : List (Option Bool)) : Type 0 where
  pub long : length seconds ≡ length f.nodes
  pub known : (n : ℕ) (second : Bool) → slice_get seconds n ≡ Some (Some second) → HasSecond f n second
