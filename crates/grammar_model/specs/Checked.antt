-- What a grammar has to be: each condition that a check tests, in the order in which it tests them.
-- Source: the Libmarpa manual (precomputation of grammars), with our own conditions on sequences, duplicates and cycles.
use Rattle.std.specs.Prelude.{◌≡◌, ◌≢◌, ℕ, ◌<◌, List, length, Some, slice_get, Contains}
use Rattle.grammar_model.specs.Grammar.{PlainRule, SequenceRule, Plain, Sequence, Grammar, Slot, slot_of, rule_at, lhs_of, child_slot, slot_count, IsTerminal}
use Rattle.grammar_model.specs.Analysis.{IsNullable, IsProductive}
use Rattle.grammar_model.specs.Cycles.{IsCyclic, IsLeastCycle, HasHeights}

-- the symbol is the left side of a rule
abbrev pub IsLeft : Grammar → ℕ → Type 0
IsLeft g symbol = (i : ℕ) × (i < length g.rules) × (lhs_of (rule_at g i) ≡ symbol)

abbrev pub StartsAreLeft : Grammar → Type 0
StartsAreLeft g = (s : ℕ) → Contains g.starts s → IsLeft g s

-- a sequence rule is the only rule of its left side
abbrev pub IsAloneAt : Grammar → (i j : ℕ) → Type 0
IsAloneAt g i j = (r : SequenceRule) → rule_at g i ≡ Sequence r → lhs_of (rule_at g j) ≡ r.lhs → i ≡ j

abbrev pub SequencesAreAlone : Grammar → Type 0
SequencesAreAlone g = (i j : ℕ) → i < length g.rules → j < length g.rules → IsAloneAt g i j

-- a plain rule says again what an earlier one says
abbrev pub IsDuplicate : Grammar → ℕ → Type 0
IsDuplicate g i = (j : ℕ) × (r : PlainRule) × (s : PlainRule) × (j < i) × (rule_at g j ≡ Plain r) × (rule_at g i ≡ Plain s) × (r.lhs ≡ s.lhs) × (r.rhs ≡ s.rhs)

abbrev pub RulesDiffer : Grammar → Type 0
RulesDiffer g = (i : ℕ) → i < length g.rules → IsDuplicate g i → ⊥

-- an item or a separator of the sequence rule is nullable
abbrev pub IsCountedNullable : Grammar → ℕ → Type 0
IsCountedNullable g i = (r : SequenceRule) × (rule_at g i ≡ Sequence r) × ((k : ℕ) × (k < slot_count (Sequence r)) × IsNullable g (child_slot (Sequence r) k))

abbrev pub ItemsSpan : Grammar → Type 0
ItemsSpan g = (i : ℕ) → i < length g.rules → IsCountedNullable g i → ⊥

abbrev pub StartsAreProductive : Grammar → Type 0
StartsAreProductive g = (s : ℕ) → Contains g.starts s → IsProductive g (slot_of s)

-- a grammar that passes the check
pub record IsChecked (g : Grammar) : Type 0 where
  pub some_rule : 0 < length g.rules
  pub some_start : 0 < length g.starts
  pub starts_left : StartsAreLeft g
  pub sequences_alone : SequencesAreAlone g
  pub rules_differ : RulesDiffer g
  pub items_span : ItemsSpan g
  pub starts_productive : StartsAreProductive g
  pub acyclic : IsCyclic g → ⊥
  pub heights : HasHeights g

-- WHAT A CHECK REFUSES

-- a sequence rule has this left side, and another rule has it too
abbrev pub IsShared : Grammar → ℕ → Type 0
IsShared g symbol = (i : ℕ) × (j : ℕ) × (r : SequenceRule) × (i < length g.rules) × (j < length g.rules) × (i ≢ j) × (rule_at g i ≡ Sequence r) × (r.lhs ≡ symbol) × (lhs_of (rule_at g j) ≡ symbol)

-- the least number of which it holds
abbrev pub IsLeastWith : (ℕ → Type 0) → ℕ → Type 0
IsLeastWith P n = P n × ((m : ℕ) → m < n → P m → ⊥)

-- the first start of which it holds
abbrev pub IsFirstStart : Grammar → (ℕ → Type 0) → ℕ → Type 0
IsFirstStart g P symbol = (k : ℕ) × (slice_get g.starts k ≡ Some symbol) × P symbol × ((j s : ℕ) → j < k → slice_get g.starts j ≡ Some s → P s → ⊥)

pub data Refusal : Type 0 where
  NoRules : Refusal
  NoStart : Refusal
  StartNotLhs : (symbol : ℕ) → Refusal
  SequenceLhs : (symbol : ℕ) → Refusal
  Duplicate : (rule : ℕ) → Refusal
  CountedNullable : (rule : ℕ) → Refusal
  UnproductiveStart : (symbol : ℕ) → Refusal
  Cyclic : (cycle : List Slot) → Refusal

-- what is wrong where this is the refusal, apart from its place in the order
abbrev pub IsFault : Grammar → Refusal → Type 0
IsFault g NoRules = length g.rules ≡ 0
IsFault g NoStart = length g.starts ≡ 0
IsFault g (StartNotLhs symbol) = IsFirstStart g (λ s. IsLeft g s → ⊥) symbol
IsFault g (SequenceLhs symbol) = IsLeastWith (IsShared g) symbol
IsFault g (Duplicate rule) = (rule < length g.rules) × IsLeastWith (IsDuplicate g) rule
IsFault g (CountedNullable rule) = (rule < length g.rules) × IsLeastWith (IsCountedNullable g) rule
IsFault g (UnproductiveStart symbol) = IsFirstStart g (λ s. IsProductive g (slot_of s) → ⊥) symbol
IsFault g (Cyclic cycle) = IsLeastCycle g cycle

abbrev pub kind_of : Refusal → ℕ
kind_of NoRules = 1
kind_of NoStart = 2
kind_of (StartNotLhs symbol) = 3
kind_of (SequenceLhs symbol) = 4
kind_of (Duplicate rule) = 5
kind_of (CountedNullable rule) = 6
kind_of (UnproductiveStart symbol) = 7
kind_of (Cyclic cycle) = 8

-- the refusal of a grammar: its fault, and none of an earlier kind
pub record Refuses (g : Grammar) (refusal : Refusal) : Type 0 where
  pub fault : IsFault g refusal
  pub first : (other : Refusal) → kind_of other < kind_of refusal → IsFault g other → ⊥
