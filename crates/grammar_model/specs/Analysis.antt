-- What a grammar's slots can do: span nothing (nullable), have a tree at all (productive), and stand in a tree
-- of a start (accessible). Each is the least such set, given by rounds. A rule is live where it can stand in a
-- tree. A cycle is a list of slots that lead back to the first while spanning the same places.
-- Sources: the usual definitions for context-free grammars, on slots; the Libmarpa manual (cycles).
use Rattle.std.specs.Prelude.{◌≡◌, ◌≢◌, ℕ, zero, suc, ◌<◌, ◌⊎◌, length, IsFalse, Contains}
use Rattle.grammar_model.specs.Grammar.{WrittenRule, Plain, Sequence, Grammar, Slot, slot_of, rule_at, IsTerminal, Fits, child_slot, EachChildSlot, IsChildSlot}

-- some rule that fits the slot, of which P holds
abbrev pub SomeRule : Grammar → Slot → (WrittenRule → Type 0) → Type 0
SomeRule g slot P = (i : ℕ) × (i < length g.rules) × Fits (rule_at g i) slot × P (rule_at g i)

abbrev pub IsStar : WrittenRule → Type 0
IsStar (Plain r) = ⊥
IsStar (Sequence r) = IsFalse r.plus

-- in so many rounds: by a star, or where all child slots are so in fewer
abbrev pub IsNullableIn : ℕ → Grammar → Slot → Type 0
IsNullableIn zero g slot = ⊥
IsNullableIn (suc k) g slot = SomeRule g slot (λ rule. IsStar rule ⊎ EachChildSlot (IsNullableIn k g) rule)

abbrev pub IsNullable : Grammar → Slot → Type 0
IsNullable g slot = (k : ℕ) × IsNullableIn k g slot

-- each child slot of a plain rule, and the item of a sequence
abbrev pub EachNeeded : (Slot → Type 0) → WrittenRule → Type 0
EachNeeded P (Plain r) = EachChildSlot P (Plain r)
EachNeeded P (Sequence r) = P (slot_of r.item)

abbrev pub IsProductiveIn : ℕ → Grammar → Slot → Type 0
IsProductiveIn zero g slot = IsTerminal g slot.symbol
IsProductiveIn (suc k) g slot = IsTerminal g slot.symbol ⊎ SomeRule g slot (λ rule. IsStar rule ⊎ EachNeeded (IsProductiveIn k g) rule)

abbrev pub IsProductive : Grammar → Slot → Type 0
IsProductive g slot = (k : ℕ) × IsProductiveIn k g slot

abbrev pub IsLive : Grammar → WrittenRule → Type 0
IsLive g rule = EachNeeded (IsProductive g) rule

-- in so many steps from a start
abbrev pub IsAccessibleIn : ℕ → Grammar → Slot → Type 0
IsAccessibleIn zero g slot = (s : ℕ) × Contains g.starts s × (slot ≡ slot_of s)
IsAccessibleIn (suc k) g slot = (above : Slot) × IsAccessibleIn k g above × IsProductive g slot × SomeRule g above (λ rule. IsLive g rule × IsChildSlot rule slot)

abbrev pub IsAccessible : Grammar → Slot → Type 0
IsAccessible g slot = (k : ℕ) × IsAccessibleIn k g slot

-- a tree of the rule can be one of the slot, with nothing beside it
abbrev pub IsAlone : Grammar → Slot → WrittenRule → Type 0
IsAlone g slot (Plain r) = (k : ℕ) × (k < length r.rhs) × (child_slot (Plain r) k ≡ slot) × ((j : ℕ) → j < length r.rhs → j ≢ k → IsNullable g (child_slot (Plain r) j))
IsAlone g slot (Sequence r) = slot_of r.item ≡ slot

abbrev pub LeadsTo : Grammar → Slot → Slot → Type 0
LeadsTo g above below = SomeRule g above (IsAlone g below)
