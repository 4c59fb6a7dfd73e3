-- Groups. The group of a slot over a span are the nodes of the slot's rules that derive the span, in their order; it is the cause of an alternative.
-- The walks from its first two nodes pass the first two shapes of the slot over the span.
use Rattle.std.specs.Prelude.{◌≡◌, ℕ, List, ◌∷◌, Some, slice_get, slice_index_or, Contains}
use Rattle.std.specs.List.Sorted.{IsStrictlySortedBy}
use Rattle.grammar_model.specs.Grammar.{Slot}
use Rattle.recognizer_model.specs.declared.flat.FlatSymbol.TheVariants.{Slot as AtLevel}
use Rattle.recognizer_model.specs.declared.flat.FlatSource.TheVariants.{Written}
use Rattle.recognizer_model.specs.Flat.{source_of}
use Rattle.recognizer_model.specs.FlatForm.{symbol_at}
use Rattle.forest_model.specs.Forest.{Wholes, Alternative, ForestNode, Forest}
use Rattle.forest_laws.specs.Lists.{cause_symbol, rule_of}
use Rattle.glade_model.specs.Glades.{Shape, Glade, glade_cmp}
use Rattle.glade_laws.specs.Walks.{IsFirst, IsOnly, IsSecond}

-- the symbol of the start
abbrev pub start_of : Forest → ℕ
start_of f = slice_index_or f.written.starts f.start 0

pub record IsGroup (f : Forest) (slot : Slot) (p q : ℕ) (nodes : List ℕ) : Type 0 where
  pub number : ℕ
  pub node : ForestNode
  pub there : slice_get f.nodes number ≡ Some node
  pub alternative : Alternative
  pub has : Contains node.alternatives alternative
  pub symbol : symbol_at f.flat (cause_symbol f node.key) ≡ AtLevel slot.symbol slot.level
  pub start : alternative.start ≡ p
  pub end : node.key.end ≡ q
  pub cause : alternative.cause ≡ Wholes nodes

abbrev pub shape_at : ℕ → List ℕ → Shape
shape_at rule starts = record { rule = rule; starts = starts }

-- the node is of a flat rule that comes from the rule
abbrev pub ComesFrom : Forest → (n rule : ℕ) → Type 0
ComesFrom f n rule = source_of f.flat (rule_of (slice_get f.nodes n)) ≡ Written rule

-- the first two shapes of a group: two of its first node, or that of its first node, if it has one, and the first of the next
pub data AreFirstTwo (f : Forest) (nodes : List ℕ) : Shape → Shape → Type 0 where
  OfOne : (n : ℕ) (more : List ℕ) (rule : ℕ) (starts others : List ℕ) → nodes ≡ n ∷ more → ComesFrom f n rule →
      IsSecond f n starts others → AreFirstTwo f nodes (shape_at rule starts) (shape_at rule others)
  OfTwo : (n m : ℕ) (more : List ℕ) (rule rule' : ℕ) (starts others : List ℕ) → nodes ≡ n ∷ m ∷ more → ComesFrom f n rule → ComesFrom f m rule' →
      IsOnly f n starts → IsFirst f m others → AreFirstTwo f nodes (shape_at rule starts) (shape_at rule' others)

-- the glade's slot has a group over its span, with these first two shapes
pub record IsByGroup (f : Forest) (glade : Glade) : Type 0 where
  pub nodes : List ℕ
  pub group : IsGroup f glade.slot glade.from glade.to nodes
  pub shapes : AreFirstTwo f nodes glade.first glade.second

-- one of each group that has two shapes, in the order of glades
pub record AreByGroups (f : Forest) (glades : List Glade) : Type 0 where
  pub sorted : IsStrictlySortedBy glade_cmp glades
  pub each : (glade : Glade) → Contains glades glade → IsByGroup f glade
  pub all : (glade : Glade) → IsByGroup f glade → (told : Glade) × Contains glades told × (told.slot ≡ glade.slot) × (told.from ≡ glade.from) × (told.to ≡ glade.to)
