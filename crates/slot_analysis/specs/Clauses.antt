-- The clauses by which slots are nullable or productive: those of the rules, of the levels, and of terminals.
use Rattle.std.specs.Prelude.{◌≡◌, ℕ, suc, ◌<◌, ◌≤◌, Bool, true, false, List, length, slice_index, Contains, ◌⊎◌, ◌↔◌}
use Rattle.grammar_model.specs.Grammar.{Grammar, Slot, rule_at, IsTerminal}
use Rattle.grammar_model.specs.Analysis.{IsNullable, IsProductive}
use Rattle.horn_clauses.specs.Least.{Clause}
use Rattle.slot_analysis.specs.Slots.{number, IsNumbered, end_of, rule_clause, chain_clause, fact_clause}

-- terminals are productive; none is nullable. The flag says that separators count, as they do for nullable.
abbrev pub IsFact : Bool → Grammar → ℕ → Type 0
IsFact true g symbol = ⊥
IsFact false g symbol = IsTerminal g symbol

abbrev pub IsOfRule : Bool → Grammar → List ℕ → Clause → Type 0
IsOfRule separators g bases c = (i : ℕ) × (i < length g.rules) × (c ≡ rule_clause separators bases (rule_at g i))

abbrev pub IsOfLevels : Grammar → List ℕ → Clause → Type 0
IsOfLevels g bases c = (s : ℕ) × (x : ℕ) × (s < length g.names) × (slice_index bases s ≤ x) × (suc x < end_of bases s) × (c ≡ chain_clause x)

abbrev pub IsOfTerminal : Bool → Grammar → List ℕ → Clause → Type 0
IsOfTerminal separators g bases c = (s : ℕ) × (x : ℕ) × (s < length g.names) × (slice_index bases s ≤ x) × (x < end_of bases s) × IsFact separators g s × (c ≡ fact_clause x)

pub record HasClauses (separators : Bool) (g : Grammar) (bases : List ℕ) (clauses : List Clause) : Type 0 where
  pub real : (c : Clause) → Contains clauses c → IsOfRule separators g bases c ⊎ (IsOfLevels g bases c ⊎ IsOfTerminal separators g bases c)
  pub rules : (i : ℕ) → i < length g.rules → Contains clauses (rule_clause separators bases (rule_at g i))
  pub levels : (s x : ℕ) → s < length g.names → slice_index bases s ≤ x → suc x < end_of bases s → Contains clauses (chain_clause x)
  pub terminals : (s x : ℕ) → s < length g.names → slice_index bases s ≤ x → x < end_of bases s → IsFact separators g s → Contains clauses (fact_clause x)

-- nullable, where separators count, and else productive
abbrev pub Can : Bool → Grammar → Slot → Type 0
Can true g slot = IsNullable g slot
Can false g slot = IsProductive g slot

-- the numbers of the slots that can
pub record IsAnalysis (separators : Bool) (g : Grammar) (bases keys : List ℕ) : Type 0 where
  pub exact : (slot : Slot) → IsNumbered g bases slot → Contains keys (number bases slot) ↔ Can separators g slot
