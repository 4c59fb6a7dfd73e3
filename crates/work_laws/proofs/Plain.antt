-- Grammars whose rules are plain and not empty: nothing is nullable, and no condition on sequences is broken.
use Rattle.std.proofs.Common.{◌≡◌, inl, inr, ℕ, zero, suc, ◌<◌, ◌≤◌, length, refl, subst, arith}
use Rattle.grammar_model.specs.Grammar.{SequenceRule, WrittenRule, Plain, Sequence, IsPlain, Grammar, Slot, rule_at, slot_count, child_slot, IsTerminal}
use Rattle.grammar_model.specs.Analysis.{IsStar, IsNullableIn, IsNullable}
use Rattle.grammar_model.specs.Checked.{SequencesAreAlone, ItemsSpan}
use Rattle.recognizer_model.specs.declared.flat.FlatSymbol.{FlatSymbol}
use Rattle.recognizer_model.specs.declared.flat.FlatSymbol.TheVariants.{Terminal, Slot as SlotSymbol}
use Rattle.recognizer_model.specs.FlatForm.{Stands, AsTerminal, AsSlot}

-- a plain rule is no sequence
pub no_sequence : (rule : WrittenRule) (r : SequenceRule) → IsPlain rule → rule ≡ Sequence r → ⊥
no_sequence rule r plain e = subst IsPlain e plain

no_star : (rule : WrittenRule) → IsPlain rule → IsStar rule → ⊥
no_star (Plain r) plain star = star
no_star (Sequence r) plain star = plain

pub zero_level : (k : ℕ) → k ≤ 0 → 0 ≡ k
zero_level k le = omega arith

-- all rules are plain and have a part
pub record IsSolid (g : Grammar) : Type 0 where
  pub plain : (i : ℕ) → IsPlain (rule_at g i)
  pub parts : (i : ℕ) → i < length g.rules → 0 < slot_count (rule_at g i)

module _ (g : Grammar) (solid : IsSolid g) where
  none_in : (k : ℕ) (slot : Slot) → IsNullableIn k g slot → ⊥
  none_in zero slot h = h
  none_in (suc k) slot (i, lt, fits, inl star) = no_star (rule_at g i) (solid.plain i) star
  none_in (suc k) slot (i, lt, fits, inr each) = none_in k (child_slot (rule_at g i) 0) (each 0 (solid.parts i lt))

  pub none_nullable : (slot : Slot) → IsNullable g slot → ⊥
  none_nullable slot (k, h) = none_in k slot h

  pub alone : SequencesAreAlone g
  alone i j il jl r e same = absurd (no_sequence (rule_at g i) r (solid.plain i) e)

  pub items_span : ItemsSpan g
  items_span i il (r, e, nullable) = no_sequence (rule_at g i) r (solid.plain i) e

-- what stands for a slot
pub as_terminal : (g : Grammar) (slot : Slot) (s : FlatSymbol) → IsTerminal g slot.symbol → Stands g slot s → Terminal slot.symbol ≡ s
as_terminal g slot s is (AsTerminal h) = refl
as_terminal g slot s is (AsSlot h) = absurd (h is)

pub as_slot : (g : Grammar) (slot : Slot) (s : FlatSymbol) → (IsTerminal g slot.symbol → ⊥) → Stands g slot s → SlotSymbol slot.symbol slot.level ≡ s
as_slot g slot s never (AsTerminal h) = absurd (never h)
as_slot g slot s never (AsSlot h) = refl
