-- A flat grammar seen as a grammar, by what its symbols and rules stand for: what the proofs of the flat form rest on.
use Rattle.std.specs.Prelude.{◌≡◌, ℕ, suc, ◌<◌, ◌≤◌, Bool, true, false, cond, IsFalse, List, length, slice_index, pos, ◌⊎◌}
use Rattle.std.specs.declared.cmp.Ordering.TheVariants.{Less, Greater}
use Rattle.grammar_model.specs.Grammar.{PlainRule, SequenceRule, WrittenRule, Plain, Sequence, Grammar, Slot, slot_of, rule_at, IsTerminal, Fits, child_slot, slot_count, IsChildCount, EachChildSlot, has_trailing}
use Rattle.grammar_model.specs.Trees.{Tree, Children, Leaf, Nulled, Node, NoChild, Child}
use Rattle.grammar_model.specs.Analysis.{IsNullable, IsProductive, IsLive}
use Rattle.grammar_model.specs.Derives.{Edges}
use Rattle.grammar_model.specs.Order.{RuleOrder}
use Rattle.recognizer_model.specs.FlatForm.{join}
use Rattle.recognizer_model.specs.View.{plain_rule}

pub data FlatSymbol : Type 0 where
  FlatTerminal : (symbol : ℕ) → FlatSymbol
  FlatSlot : (slot : Slot) → FlatSymbol
  FlatList : (rule : ℕ) → FlatSymbol
  FlatTop : (start : ℕ) → FlatSymbol

abbrev pub StandsFor : FlatSymbol → Slot → Type 0
StandsFor (FlatTerminal s) slot = slot ≡ slot_of s
StandsFor (FlatSlot s) slot = slot ≡ s
StandsFor (FlatList i) slot = ⊥
StandsFor (FlatTop k) slot = ⊥

abbrev pub written_symbol : FlatSymbol → ℕ
written_symbol (FlatTerminal s) = s
written_symbol (FlatSlot s) = s.symbol
written_symbol (FlatList i) = 0
written_symbol (FlatTop k) = 0

abbrev pub is_list_symbol : FlatSymbol → Bool
is_list_symbol (FlatTerminal s) = false
is_list_symbol (FlatSlot s) = false
is_list_symbol (FlatList i) = true
is_list_symbol (FlatTop k) = false

-- no top, which stands in no right side
abbrev pub IsInner : FlatSymbol → Type 0
IsInner (FlatTop k) = ⊥
IsInner _ = Unit {0}

-- what is known of a flat grammar's symbols and rules
pub record FlatNames : Type 0 where
  pub symbol : ℕ → FlatSymbol
  pub lhs : ℕ → ℕ
  pub rhs : ℕ → List ℕ
  pub source : ℕ → ℕ

abbrev pub is_list_node : FlatNames → Tree → Bool
is_list_node n (Leaf x from to) = false
is_list_node n (Nulled x at) = false
is_list_node n (Node r children from to) = is_list_symbol (n.symbol (n.lhs r))

abbrev mutual
  pub tree_of : FlatNames → Tree → Tree
  tree_of n (Leaf x from to) = Leaf (written_symbol (n.symbol x)) from to
  tree_of n (Nulled x at) = Nulled (written_symbol (n.symbol x)) at
  tree_of n (Node r children from to) = Node (n.source r) (children_of n children) from to

  pub children_of : FlatNames → Children → Children
  children_of n NoChild = NoChild
  children_of n (Child prefix last) =
      cond (is_list_node n last) (join (children_of n prefix) (inside n last)) (Child (children_of n prefix) (tree_of n last))

  -- what a list's node stands for
  pub inside : FlatNames → Tree → Children
  inside n (Leaf x from to) = NoChild
  inside n (Nulled x at) = NoChild
  inside n (Node r children from to) = children_of n children

abbrev pub IsSequence : WrittenRule → Type 0
IsSequence (Plain r) = ⊥
IsSequence (Sequence r) = Unit {0}

-- whether n children end with an item
abbrev pub EndsWithItem : WrittenRule → ℕ → Type 0
EndsWithItem (Plain r) n = ⊥
EndsWithItem (Sequence r) n = (0 < n) × (has_trailing (Sequence r) n ≡ false)

-- what the left side says of a rule of so many parts
abbrev pub IsHead : Grammar → FlatSymbol → ℕ → ℕ → Type 0
IsHead g (FlatTerminal s) i n = ⊥
IsHead g (FlatSlot slot) i n = (i < length g.rules) × Fits (rule_at g i) slot × IsChildCount (rule_at g i) n
IsHead g (FlatList j) i n = (i ≡ j) × EndsWithItem (rule_at g i) n
IsHead g (FlatTop k) i n = Unit {0}

-- the part at place k: the child slot of that place, or at the front a list
abbrev pub IsPart : Grammar → FlatSymbol → ℕ → ℕ → Type 0
IsPart g symbol i k = StandsFor symbol (child_slot (rule_at g i) k) ⊎ ((k ≡ 0) × (symbol ≡ FlatList i) × IsSequence (rule_at g i))

-- each flat rule, terminal, edge and nullable symbol of f stands for one of g
pub record IsFlatOf (f g : Grammar) (n : FlatNames) (flat_edge edge : Edges) : Type 0 where
  pub flat : (r : ℕ) → r < length f.rules → rule_at f r ≡ plain_rule (n.lhs r) (n.rhs r)
  pub head : (r : ℕ) → r < length f.rules → 0 < length (n.rhs r) → IsHead g (n.symbol (n.lhs r)) (n.source r) (length (n.rhs r))
  pub part : (r k : ℕ) → r < length f.rules → k < length (n.rhs r) → IsInner (n.symbol (n.lhs r)) → IsPart g (n.symbol (slice_index (n.rhs r) k)) (n.source r) k
  pub leaf : (x p q : ℕ) → IsTerminal f x → flat_edge x p q → (s : ℕ) × (n.symbol x ≡ FlatTerminal s) × IsTerminal g s × edge s p q
  pub nulled : (x : ℕ) → IsInner (n.symbol x) → IsNullable f (slot_of x) → (slot : Slot) × (n.symbol x ≡ FlatSlot slot) × IsNullable g slot

-- a rule of a list is its first item, or one item more
abbrev pub IsLong : FlatNames → ℕ → ℕ → Type 0
IsLong n i r = (2 ≤ length (n.rhs r)) × (n.symbol (slice_index (n.rhs r) 0) ≡ FlatList i)

-- the flat rules of a slot compare as what they stand for; of a list's two rules the longer comes first
pub record KeepsOrder (f g : Grammar) (n : FlatNames) (flat written : RuleOrder) : Type 0 where
  pub null_high : (r : ℕ) → flat.null_high r ≡ written.null_high (n.source r)
  pub slot_rules : (slot : Slot) (r r' : ℕ) → r < length f.rules → r' < length f.rules → 0 < length (n.rhs r) → 0 < length (n.rhs r') → n.symbol (n.lhs r) ≡ FlatSlot slot → n.lhs r ≡ n.lhs r' →
      flat.cmp r (length (n.rhs r)) r' (length (n.rhs r')) ≡ written.cmp (n.source r) (length (n.rhs r)) (n.source r') (length (n.rhs r'))
  pub list_rules : (i r : ℕ) → r < length f.rules → 0 < length (n.rhs r) → n.symbol (n.lhs r) ≡ FlatList i → (length (n.rhs r) ≡ 1) × StandsFor (n.symbol (slice_index (n.rhs r) 0)) (child_slot (rule_at g i) 0) ⊎ IsLong n i r
  pub list_order : (i r r' : ℕ) → r < length f.rules → r' < length f.rules → 0 < length (n.rhs r) → 0 < length (n.rhs r') → n.symbol (n.lhs r) ≡ FlatList i → n.lhs r ≡ n.lhs r' →
      (r ≡ r') ⊎ ((2 ≤ length (n.rhs r)) × (length (n.rhs r') ≡ 1) × (flat.cmp r (length (n.rhs r)) r' 1 ≡ Less)) ⊎ ((length (n.rhs r) ≡ 1) × (2 ≤ length (n.rhs r')) × (flat.cmp r 1 r' (length (n.rhs r')) ≡ Greater))
  pub items_span : (i r k : ℕ) → r < length f.rules → n.symbol (n.lhs r) ≡ FlatList i → length (n.rhs r) ≡ suc k → IsNullable f (slot_of (slice_index (n.rhs r) k)) → ⊥

-- the flat rule of so many parts, for a left side and a source
abbrev pub HasRule : Grammar → FlatNames → (lhs source parts : ℕ) → Type 0
HasRule f n lhs i parts = (r : ℕ) × (r < length f.rules) × (n.lhs r ≡ lhs) × (n.source r ≡ i) × (length (n.rhs r) ≡ parts)

-- the same, of a rule whose first part is a list
abbrev pub HasListRule : Grammar → FlatNames → (lhs source parts list : ℕ) → Type 0
HasListRule f n lhs i parts y = (r : ℕ) × (r < length f.rules) × (n.lhs r ≡ lhs) × (n.source r ≡ i) × (length (n.rhs r) ≡ parts) × (slice_index (n.rhs r) 0 ≡ y)

-- each live rule of g that fits a slot of f has its flat rules, and so have lists
pub record HasFlatRules (f g : Grammar) (n : FlatNames) (flat_edge edge : Edges) : Type 0 where
  pub terminals : (x s : ℕ) → n.symbol x ≡ FlatTerminal s → IsTerminal g s × IsTerminal f x
  pub edges : (x s p q : ℕ) → n.symbol x ≡ FlatTerminal s → edge s p q → flat_edge x p q
  pub slots : (x : ℕ) (slot : Slot) → n.symbol x ≡ FlatSlot slot → IsTerminal g slot.symbol → ⊥
  pub nulled : (x : ℕ) (slot : Slot) → n.symbol x ≡ FlatSlot slot → IsNullable g slot → IsNullable f (slot_of x)
  pub plain : (x i : ℕ) (slot : Slot) (r : PlainRule) → n.symbol x ≡ FlatSlot slot → i < length g.rules → rule_at g i ≡ Plain r → Fits (Plain r) slot → IsLive g (Plain r) → 0 < length r.rhs → HasRule f n x i (length r.rhs)
  pub whole : (x i : ℕ) (slot : Slot) (r : SequenceRule) → n.symbol x ≡ FlatSlot slot → i < length g.rules → rule_at g i ≡ Sequence r → Fits (Sequence r) slot → IsLive g (Sequence r) → (y : ℕ) × (n.symbol y ≡ FlatList i) × HasListRule f n x i 1 y
  pub trailing : (x i : ℕ) (slot : Slot) (r : SequenceRule) → n.symbol x ≡ FlatSlot slot → i < length g.rules → rule_at g i ≡ Sequence r → Fits (Sequence r) slot → EachChildSlot (IsProductive g) (Sequence r) → has_trailing (Sequence r) 2 ≡ true → IsFalse r.proper → (y : ℕ) × (n.symbol y ≡ FlatList i) × HasListRule f n x i 2 y
  pub short : (y i : ℕ) (r : SequenceRule) → n.symbol y ≡ FlatList i → rule_at g i ≡ Sequence r → (k : ℕ) × (k < length f.rules) × (n.lhs k ≡ y) × (n.source k ≡ i) × (length (n.rhs k) ≡ 1) × StandsFor (n.symbol (slice_index (n.rhs k) 0)) (child_slot (Sequence r) 0)
  pub long : (y i : ℕ) (r : SequenceRule) → n.symbol y ≡ FlatList i → rule_at g i ≡ Sequence r → EachChildSlot (IsProductive g) (Sequence r) → HasListRule f n y i (suc (slot_count (Sequence r))) y
  pub items : (i k : ℕ) → IsSequence (rule_at g i) → IsNullable g (child_slot (rule_at g i) k) → ⊥
