-- The clauses by which slots are accessible. Past the numbers of the slots stand as many again: the second number of
-- a slot is there where the slot or a looser one of its symbol is accessible, so where the rules that fit are in use.
use Rattle.std.specs.Prelude.{◌≡◌, ℕ, suc, ◌+◌, ◌<◌, ◌≤◌, List, [], ◌∷◌, length, slice_index, Contains, ◌⊎◌, ◌↔◌}
use Rattle.grammar_model.specs.Grammar.{Grammar, Slot, rule_at, lhs_of, level_of, child_slot, slot_count}
use Rattle.grammar_model.specs.Analysis.{IsLive, IsProductive, IsAccessible}
use Rattle.horn_clauses.specs.Least.{Clause}
use Rattle.slot_analysis.specs.Slots.{number, IsNumbered, end_of, fact_clause}

abbrev pub unit_clause : (head part : ℕ) → Clause
unit_clause head part = record { head = head; body = part ∷ [] }

-- just those clauses were added of which Q holds
pub record HasMore (old new : List Clause) (Q : Clause → Type 0) : Type 0 where
  pub keeps : (c : Clause) → Contains old c → Contains new c
  pub only : (c : Clause) → Contains new c → Contains old c ⊎ Q c
  pub has : (c : Clause) → Q c → Contains new c

abbrev pub head_of : Grammar → List ℕ → ℕ → ℕ
head_of g bases i = slice_index bases (lhs_of (rule_at g i)) + level_of (rule_at g i)

-- of the first so many starts
abbrev pub IsOfStart : Grammar → List ℕ → ℕ → Clause → Type 0
IsOfStart g bases n c = (k : ℕ) × (k < n) × (c ≡ fact_clause (slice_index bases (slice_index g.starts k)))

abbrev pub IsOfUse : (total n : ℕ) → Clause → Type 0
IsOfUse total n c = (x : ℕ) × (x < n) × (c ≡ unit_clause (total + x) x)

abbrev pub IsOfNext : (total from to : ℕ) → Clause → Type 0
IsOfNext total from to c = (x : ℕ) × (from ≤ x) × (suc x < to) × (c ≡ unit_clause (total + suc x) (total + x))

abbrev pub IsOfNexts : List ℕ → (total n : ℕ) → Clause → Type 0
IsOfNexts bases total n c = (s : ℕ) × (s < n) × IsOfNext total (slice_index bases s) (end_of bases s) c

abbrev pub IsOfPart : Grammar → List ℕ → (total i n : ℕ) → Clause → Type 0
IsOfPart g bases total i n c = (k : ℕ) × (k < n) × IsProductive g (child_slot (rule_at g i) k) × (c ≡ unit_clause (number bases (child_slot (rule_at g i) k)) (total + head_of g bases i))

abbrev pub IsOfParts : Grammar → List ℕ → (total n : ℕ) → Clause → Type 0
IsOfParts g bases total n c = (i : ℕ) × (i < n) × IsLive g (rule_at g i) × IsOfPart g bases total i (slot_count (rule_at g i)) c

-- all of them
abbrev pub IsStep : Grammar → List ℕ → ℕ → Clause → Type 0
IsStep g bases total c =
    IsOfStart g bases (length g.starts) c ⊎ (IsOfUse total total c ⊎ (IsOfNexts bases total (length g.names) c ⊎ IsOfParts g bases total (length g.rules) c))

-- the numbers of the accessible slots
pub record IsReach (g : Grammar) (bases keys : List ℕ) : Type 0 where
  pub exact : (slot : Slot) → IsNumbered g bases slot → Contains keys (number bases slot) ↔ IsAccessible g slot
  pub some : (s x : ℕ) → s < length g.names → suc x ≡ end_of bases s → Contains keys (slice_index bases (length g.names) + x) ↔ ((l : ℕ) × IsAccessible g (record { symbol = s; level = l }))
