-- The rows of the steps between slots, from a grammar.
use Rattle.std.specs.Prelude.{◌≡◌, ◌≢◌, ℕ, ◌<◌, ◌≤◌, List, length, slice_index, Contains, ◌⊎◌}
use Rattle.grammar_model.specs.Grammar.{Grammar, rule_at, child_slot}
use Rattle.grammar_model.specs.Analysis.{IsNullable, IsProductive, IsAccessible}
use Rattle.jagged.specs.Rows.{row_at}
use Rattle.slot_analysis.specs.Slots.{number, end_of, needed_of}
use Rattle.slot_analysis.specs.Steps.{head_of}

-- just those numbers were added to rows of which Q holds
pub record HasPairs (old new : List (List ℕ)) (Q : (t h : ℕ) → Type 0) : Type 0 where
  pub same_length : length new ≡ length old
  pub keeps : (t h : ℕ) → Contains (row_at old t) h → Contains (row_at new t) h
  pub only : (t h : ℕ) → Contains (row_at new t) h → Contains (row_at old t) h ⊎ Q t h
  pub has : (t h : ℕ) → Q t h → Contains (row_at new t) h

-- the rule's part k can stand there with nothing beside it, and in a tree of a start
abbrev pub IsLinkAt : Grammar → List ℕ → (i k t h : ℕ) → Type 0
IsLinkAt g bases i k t h =
    (t ≡ number bases (child_slot (rule_at g i) k)) × (h ≡ head_of g bases i) × IsAccessible g (child_slot (rule_at g i) k) × IsProductive g (child_slot (rule_at g i) k)
    × ((j : ℕ) → j < needed_of (rule_at g i) → j ≢ k → IsNullable g (child_slot (rule_at g i) j))

-- one of the rule's first n parts
abbrev pub IsLinkOf : Grammar → List ℕ → (i n t h : ℕ) → Type 0
IsLinkOf g bases i n t h = (k : ℕ) × (k < n) × IsLinkAt g bases i k t h

-- one of the first n rules
abbrev pub IsLinkTo : Grammar → List ℕ → (n t h : ℕ) → Type 0
IsLinkTo g bases n t h = (i : ℕ) × (i < n) × IsLinkOf g bases i (needed_of (rule_at g i)) t h

-- for each slot's number the first of its symbol
pub record IsFloored (g : Grammar) (bases floors : List ℕ) : Type 0 where
  pub sized : length floors ≡ slice_index bases (length g.names)
  pub floor : (s x : ℕ) → s < length g.names → slice_index bases s ≤ x → x < end_of bases s → slice_index floors x ≡ slice_index bases s
