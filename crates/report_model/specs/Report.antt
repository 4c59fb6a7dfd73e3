-- THE PROGRESS REPORT at a place: which rules a derivation of the start may be in there, how far it has come in each, and where each began;
-- each line once, by rule, dot and origin. A law says that it tells the full item set of the place, by any flat form of the grammar.
-- Sources: Earley 1970 (item sets); the Libmarpa manual (progress reports). The dots of sequences and the order of the lines are our own.
use Rattle.std.specs.Prelude.{◌≡◌, ℕ, zero, suc, ◌<◌, ◌≤◌, ◌↔◌, if◌then◌else◌, List, length, Some, slice_get, Contains}
use Rattle.std.specs.Ordering.{ordering_then, nat_cmp}
use Rattle.std.specs.List.Sorted.{IsStrictlySortedBy}
use Rattle.std.specs.declared.cmp.Ordering.{Ordering}
use Rattle.grammar_model.specs.Grammar.{WrittenRule, Plain, Sequence, Grammar, Slot, slot_of, rule_at, Fits, child_slot, is_item, IsChildCount}
use Rattle.grammar_model.specs.Trees.{Children, child_count}
use Rattle.grammar_model.specs.Analysis.{IsLive}
use Rattle.grammar_model.specs.Derives.{Edges, Held, DerivesPrefix}
use Rattle.grammar_model.specs.declared.Edge.{Edge}
use Rattle.recognizer_model.specs.declared.ReportLine.{ReportLine}

-- these are first children of the rule, which fits the slot and may have so many in all
pub record AreFirst (g : Grammar) (edge : Edges) (slot : Slot) (i all from to : ℕ) (children : Children) : Type 0 where
  pub in_range : i < length g.rules
  pub fits : Fits (rule_at g i) slot
  pub live : IsLive g (rule_at g i)
  pub complete : IsChildCount (rule_at g i) all
  pub some : 0 < all
  pub first : child_count children ≤ all
  pub prefix : DerivesPrefix g edge (rule_at g i) from to children

-- the slot may stand at the place: it is the start's at 0, or the next child of a rule whose own slot may stand where the rule begins
pub data MayStand (g : Grammar) (edge : Edges) (start : ℕ) : Slot → (place : ℕ) → Type 0 where
  AtStart : {symbol : ℕ} → slice_get g.starts start ≡ Some symbol → MayStand g edge start (slot_of symbol) 0
  Next : {slot : Slot} {i all from to : ℕ} {children : Children} → MayStand g edge start slot from → AreFirst g edge slot i all from to children → child_count children < all →
      MayStand g edge start (child_slot (rule_at g i) (child_count children)) to

-- how far a rule has come with so many children; of a sequence only what the last one is: 0 for none, 1 for an item, 2 for a separator
abbrev pub dot_behind : WrittenRule → ℕ → ℕ
dot_behind (Plain r) n = n
dot_behind (Sequence r) zero = 0
dot_behind (Sequence r) (suc n) = if is_item r.separator n then 1 else 2

-- the rule may begin at the origin, and its first children may end at the place
pub record IsLine (g : Grammar) (edge : Edges) (start place : ℕ) (line : ReportLine) : Type 0 where
  pub slot : Slot
  pub stands : MayStand g edge start slot line.origin
  pub all : ℕ
  pub children : Children
  pub first : AreFirst g edge slot line.rule all line.origin place children
  pub dot_is : line.dot ≡ dot_behind (rule_at g line.rule) (child_count children)

-- by rule, then by dot, then by origin
abbrev pub line_cmp : ReportLine → ReportLine → Ordering
line_cmp a b = ordering_then (nat_cmp a.rule b.rule) (ordering_then (nat_cmp a.dot b.dot) (nat_cmp a.origin b.origin))

-- the lines of the place, for a start by its place among the starts
pub record IsReport (g : Grammar) (edges : List Edge) (start place : ℕ) (lines : List ReportLine) : Type 0 where
  pub sorted : IsStrictlySortedBy line_cmp lines
  pub exact : (line : ReportLine) → Contains lines line ↔ IsLine g (Held edges) start place line
