-- Heads: groups of slots that have two shapes, by their first nodes, with what glades are sorted by.
use Rattle.std.specs.Prelude.{◌≡◌, ℕ, ◌+◌, ◌⊎◌, true, false, List, [], ◌∷◌, Option, Some, None, slice_get, Contains}
use Rattle.std.specs.declared.cmp.Ordering.{Ordering}
use Rattle.std.specs.Ordering.{ordering_then, nat_cmp}
use Rattle.grammar_model.specs.Grammar.{Slot}
use Rattle.recognizer_model.specs.declared.flat.FlatSymbol.TheVariants.{Slot as AtLevel}
use Rattle.recognizer_model.specs.Flat.{lhs_of}
use Rattle.recognizer_model.specs.FlatForm.{symbol_at}
use Rattle.forest_model.specs.Forest.{Forest}
use Rattle.bocage.specs.Readers.{node_at}
use Rattle.glades.specs.Links.{IsNote}
use Rattle.glade_model.specs.Glades.{Shape, Glade}
use Rattle.glade_laws.specs.Walks.{HasSecond, IsFirst, IsSecond}
use Rattle.glade_laws.specs.Groups.{IsGroup, IsByGroup, ComesFrom}
use Rattle.glades.specs.declared.heads.Head.{Head}

-- the greatest number of 32 bits, from which the places of ends are counted back
abbrev pub last_place : ℕ
last_place = 4294967295

-- the node begins a group of the slot over the span that has two shapes: it has two nodes, or a second choice on the walk from its only one
pub record IsTwo (f : Forest) (n : ℕ) (slot : Slot) (p q : ℕ) : Type 0 where
  pub more : List ℕ
  pub group : IsGroup f slot p q (n ∷ more)
  pub two : slice_get more 0 ≡ None → HasSecond f n true

pub record IsHead (f : Forest) (head : Head) : Type 0 where
  pub to : ℕ
  pub back : head.back + to ≡ last_place
  pub is_two : IsTwo f head.node (record { symbol = head.symbol; level = head.level }) head.from to

-- the left side of the node's rule is the slot
abbrev pub IsLeft : Forest → (n symbol level : ℕ) → Type 0
IsLeft f n symbol level = symbol_at f.flat (lhs_of f.flat (node_at f n).key.rule) ≡ AtLevel symbol level

-- the slot of its left side, or that it is none
abbrev pub IsSlotAt : Forest → (n : ℕ) → Option (ℕ × ℕ) → Type 0
IsSlotAt f n None = (symbol level : ℕ) → IsLeft f n symbol level → ⊥
IsSlotAt f n (Some slot) = IsLeft f n slot.0 slot.1

-- the node begins no group that has two shapes
abbrev pub IsNoHead : Forest → (n : ℕ) → Type 0
IsNoHead f n = (slot : Slot) (p q : ℕ) → IsTwo f n slot p q → ⊥

-- the head of the group that the node begins, or that there is none
abbrev pub IsTold : Forest → (n : ℕ) → Option Head → Type 0
IsTold f n None = IsNoHead f n
IsTold f n (Some head) = IsHead f head × (head.node ≡ n)

abbrev pub IsNoteOf : Forest → (n : ℕ) → Option (Option ℕ) → Type 0
IsNoteOf f n None = IsNoHead f n
IsNoteOf f n (Some next) = IsNote f n next

-- a head of this node
abbrev pub HasHead : List Head → ℕ → Type 0
HasHead heads n = (head : Head) × Contains heads head × (head.node ≡ n)

-- the heads of one node more
pub record PutsHead (f : Forest) (n : ℕ) (old new : List Head) : Type 0 where
  pub each : (head : Head) → Contains new head → Contains old head ⊎ IsHead f head
  pub kept : (head : Head) → Contains old head → Contains new head
  pub all : (slot : Slot) (p q : ℕ) → IsTwo f n slot p q → HasHead new n

pub record AreHeads (f : Forest) (heads : List Head) : Type 0 where
  pub each : (head : Head) → Contains heads head → IsHead f head
  pub all : (n : ℕ) (slot : Slot) (p q : ℕ) → IsTwo f n slot p q → HasHead heads n

-- by where it begins, then the longer one, then by symbol, level and node
abbrev pub head_cmp : Head → Head → Ordering
head_cmp a b =
    ordering_then (nat_cmp a.from b.from) (ordering_then (nat_cmp a.back b.back)
    (ordering_then (nat_cmp a.symbol b.symbol) (ordering_then (nat_cmp a.level b.level) (nat_cmp a.node b.node))))

-- the glade of the head's group
pub record IsGladeOf (f : Forest) (head : Head) (glade : Glade) : Type 0 where
  pub slot : glade.slot ≡ record { symbol = head.symbol; level = head.level }
  pub from : glade.from ≡ head.from
  pub to : head.back + glade.to ≡ last_place
  pub by_group : IsByGroup f glade

-- one for each head, in their order
abbrev pub AreGladesOf : Forest → List Head → List Glade → Type 0
AreGladesOf f [] [] = Unit {0}
AreGladesOf f [] (glade ∷ glades) = ⊥
AreGladesOf f (head ∷ heads) [] = ⊥
AreGladesOf f (head ∷ heads) (glade ∷ glades) = IsGladeOf f head glade × AreGladesOf f heads glades

-- the node is of a flat rule that comes from a written one
abbrev pub HasRule : Forest → ℕ → Type 0
HasRule f n = (rule : ℕ) × ComesFrom f n rule

-- the second shape of a group, by its first two nodes
abbrev pub IsOther : Forest → (n : ℕ) → Option ℕ → Shape → Type 0
IsOther f n next shape =
    (ComesFrom f n shape.rule × ((starts : List ℕ) × IsSecond f n starts shape.starts))
    ⊎ ((m : ℕ) × (next ≡ Some m) × HasSecond f n false × ComesFrom f m shape.rule × IsFirst f m shape.starts)
