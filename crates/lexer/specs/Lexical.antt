-- What a start of a lexical grammar matches, by the grammar's flat form: each character is an edge of every terminal whose set has
-- it. Of several starts the longest match decides.
-- Source: Earley 1970; the Marpa::R2 SLIF DSL manual (lexical rules, longest tokens matching).
use Rattle.std.specs.Prelude.{◌≡◌, ℕ, suc, ◌+◌, ◌<◌, ◌≤◌, ◌↔◌, List, length, Some, Contains, slice_get, slice_index}
use Rattle.std.specs.List.Sorted.{IsStrictlySortedBy}
use Rattle.std.specs.Ordering.{nat_cmp}
use Rattle.grammar_model.specs.Grammar.{slot_of}
use Rattle.grammar_model.specs.Trees.{Tree}
use Rattle.grammar_model.specs.Derives.{Edges, Derives}
use Rattle.recognizer_model.specs.Flat.{FlatGrammar, rhs_of}
use Rattle.recognizer_model.specs.FlatForm.{FlatEdges}
use Rattle.recognizer_model.specs.View.{grammar_view}
use Rattle.language_model.specs.Classes.{Class, HasMember}

-- the sets are those of the terminals
pub record LexicalForm : Type 0 where
  pub flat : FlatGrammar
  pub sets : List (ℕ × Class)

abbrev pub SetEdges : List (ℕ × Class) → List ℕ → Edges
SetEdges sets text terminal from to = (to ≡ suc from) × ((c : ℕ) × (slice_get text from ≡ Some c) × ((set : Class) × Contains sets (terminal, set) × HasMember set c))

-- the flat symbol of a start, by its place among the starts
abbrev pub start_symbol : FlatGrammar → ℕ → ℕ
start_symbol flat start = slice_index (rhs_of flat (slice_index flat.tops start)) 0

-- the start derives the characters between two places
abbrev pub HasMatch : LexicalForm → List ℕ → (start from to : ℕ) → Type 0
HasMatch l text start from to = (tree : Tree) × Derives (grammar_view l.flat) (FlatEdges l.flat (SetEdges l.sets text)) (slot_of (start_symbol l.flat start)) from to tree

-- the greatest length that a candidate matches, which is not nothing, and every candidate that matches it
pub record IsLongestMatch (l : LexicalForm) (text : List ℕ) (at : ℕ) (candidates : List ℕ) (n : ℕ) (matched : List ℕ) : Type 0 where
  pub some : 0 < n
  pub found : 0 < length matched
  pub exact : (k : ℕ) → Contains matched k ↔ (Contains candidates k × HasMatch l text k at (at + n))
  pub longest : (k m : ℕ) → Contains candidates k → HasMatch l text k at (at + m) → m ≤ n
  pub sorted : IsStrictlySortedBy nat_cmp candidates → IsStrictlySortedBy nat_cmp matched

-- no candidate matches a character or more
abbrev pub IsUnmatched : LexicalForm → List ℕ → (at : ℕ) → List ℕ → Type 0
IsUnmatched l text at candidates = (k m : ℕ) → Contains candidates k → 0 < m → HasMatch l text k at (at + m) → ⊥
