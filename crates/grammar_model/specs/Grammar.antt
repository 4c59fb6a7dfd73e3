-- Grammars. A grammar has names, rules and starts; symbols and rules are numbered by their places. A rule is
-- plain, or a sequence of items with or without separators. A slot is a symbol with a least level, and a rule
-- fits it where its left side is the symbol and its level is at least the slot's. A child slot says what may
-- stand at a place among a rule's children: levels keep the operators of a precedenced statement apart.
-- Sources: the Marpa SLIF DSL manual (precedenced and quantified statements). The table of levels is our own.
use Rattle.std.specs.Prelude.{◌≡◌, ◌≢◌, ℕ, zero, suc, ◌+◌, ◌<◌, ◌≤◌, Bool, true, false, not, ◌&&◌, ◌==◌, nat_lt, if◌then◌else◌, List, [], length, take, drop, slice_index, slice_index_or, option_to_list, ℤ, pos, Option, Some, None, IsTrue, IsFalse}
use Rattle.std.specs.List.{list_any}
pub use Rattle.grammar_model.specs.declared.Assoc.{Assoc}
pub use Rattle.grammar_model.specs.declared.Assoc.TheVariants.{Left, Right, Group}

-- one alternative of a statement, in the group of its level; level 0 is the loosest of the groups
pub record PlainRule : Type 0 where
  pub lhs : ℕ
  pub rhs : List ℕ
  pub level : ℕ
  pub groups : ℕ
  pub assoc : Assoc
  pub rank : ℤ
  pub null_high : Bool

-- items of one symbol: one or more under plus, else none or more; proper forbids a last separator
pub record SequenceRule : Type 0 where
  pub lhs : ℕ
  pub item : ℕ
  pub plus : Bool
  pub separator : Option ℕ
  pub proper : Bool
  pub rank : ℤ
  pub null_high : Bool

pub data WrittenRule : Type 0 where
  Plain : (rule : PlainRule) → WrittenRule
  Sequence : (rule : SequenceRule) → WrittenRule

abbrev pub IsPlain : WrittenRule → Type 0
IsPlain (Plain r) = Unit {0}
IsPlain (Sequence r) = ⊥

-- names are UTF-8 bytes
pub record Grammar : Type 0 where
  pub names : List (List ℕ)
  pub rules : List WrittenRule
  pub starts : List ℕ

pub record Slot : Type 0 where
  pub symbol : ℕ
  pub level : ℕ

abbrev pub slot_of : ℕ → Slot
slot_of symbol = record { symbol = symbol; level = 0 }

abbrev pub lhs_of : WrittenRule → ℕ
lhs_of (Plain r) = r.lhs
lhs_of (Sequence r) = r.lhs

abbrev pub level_of : WrittenRule → ℕ
level_of (Plain r) = r.level
level_of (Sequence r) = 0

abbrev pub rank_of : WrittenRule → ℤ
rank_of (Plain r) = r.rank
rank_of (Sequence r) = r.rank

abbrev pub null_high_of : WrittenRule → Bool
null_high_of (Plain r) = r.null_high
null_high_of (Sequence r) = r.null_high

-- an empty rule, where a number past the last rule is asked for
abbrev pub no_rule : WrittenRule
no_rule = Plain (record { lhs = 0; rhs = []; level = 0; groups = 1; assoc = Left; rank = pos 0; null_high = false })

abbrev pub rule_at : Grammar → ℕ → WrittenRule
rule_at g i = slice_index_or g.rules i no_rule

-- the left side of no rule
abbrev pub IsTerminal : Grammar → ℕ → Type 0
IsTerminal g symbol = (i : ℕ) → i < length g.rules → lhs_of (rule_at g i) ≢ symbol

abbrev pub Fits : WrittenRule → Slot → Type 0
Fits rule slot = (lhs_of rule ≡ slot.symbol) × (slot.level ≤ level_of rule)

-- the next tighter level, or any level from the tightest group
abbrev pub tighter : PlainRule → ℕ
tighter r = if r.level + 1 == r.groups then 0 else r.level + 1

abbrev pub occurs : ℕ → List ℕ → Bool
occurs symbol symbols = list_any (λ s. s == symbol) symbols

-- the level of the occurrence of the left side at place k: the outermost one on the rule's side may have the
-- rule's own level again, and the others are tighter
abbrev pub own_level : Assoc → PlainRule → ℕ → ℕ
own_level Left r k = if occurs r.lhs (take k r.rhs) then tighter r else r.level
own_level Right r k = if occurs r.lhs (drop (suc k) r.rhs) then tighter r else r.level
own_level Group r k = 0

-- levels count only in a statement of several groups, and there only at its own left side
abbrev pub child_level : PlainRule → ℕ → ℕ
child_level r k = if nat_lt 1 r.groups && (slice_index r.rhs k == r.lhs) then own_level r.assoc r k else 0

abbrev pub is_even : ℕ → Bool
is_even zero = true
is_even (suc n) = not (is_even n)

-- of a sequence's children: those at even places are items where there is a separator, and else all are
abbrev pub is_item : Option ℕ → ℕ → Bool
is_item None k = true
is_item (Some separator) k = is_even k

abbrev pub sequence_symbol : ℕ → Option ℕ → ℕ → ℕ
sequence_symbol item None k = item
sequence_symbol item (Some separator) k = if is_even k then item else separator

-- what the child at place k, counted from 0, has to fit
abbrev pub child_slot : WrittenRule → ℕ → Slot
child_slot (Plain r) k = record { symbol = slice_index r.rhs k; level = child_level r k }
child_slot (Sequence r) k = slot_of (sequence_symbol r.item r.separator k)

-- how many child slots a rule has: its parts, or its item and its separator
abbrev pub slot_count : WrittenRule → ℕ
slot_count (Plain r) = length r.rhs
slot_count (Sequence r) = suc (length (option_to_list r.separator))

abbrev pub EachChildSlot : (Slot → Type 0) → WrittenRule → Type 0
EachChildSlot P rule = (k : ℕ) → k < slot_count rule → P (child_slot rule k)

abbrev pub IsChildSlot : WrittenRule → Slot → Type 0
IsChildSlot rule slot = (k : ℕ) × (k < slot_count rule) × (child_slot rule k ≡ slot)

-- whether n children of a sequence end with a separator
abbrev pub ends_with_separator : Option ℕ → ℕ → Bool
ends_with_separator None n = false
ends_with_separator (Some separator) n = is_even n

abbrev pub has_trailing : WrittenRule → ℕ → Bool
has_trailing (Plain r) n = false
has_trailing (Sequence r) n = ends_with_separator r.separator n

-- a plain rule has one child for each part; a sequence has some, and a last separator only where it is not proper
abbrev pub IsChildCount : WrittenRule → ℕ → Type 0
IsChildCount (Plain r) n = n ≡ length r.rhs
IsChildCount (Sequence r) n = (0 < n) × (IsTrue (has_trailing (Sequence r) n) → IsFalse r.proper)
