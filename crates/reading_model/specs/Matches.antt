-- What a start of the lexical grammar matches: each character is an edge of every character set that has it.
-- Source: the Marpa::R2 SLIF DSL manual (lexical rules); Earley 1970.
use Rattle.std.specs.Prelude.{◌≡◌, ℕ, suc, List, Some, Contains, slice_get, slice_index}
use Rattle.grammar_model.specs.Grammar.{slot_of}
use Rattle.grammar_model.specs.Trees.{Tree}
use Rattle.grammar_model.specs.Derives.{Edges, Derives}
use Rattle.language_model.specs.Classes.{Class, HasMember}
use Rattle.language_model.specs.Building.{Built}

-- the character is one of the set's
pub record IsInSet (b : Built) (symbol c : ℕ) : Type 0 where
  pub set : Class
  pub is_set : Contains b.sets (symbol, set)
  pub member : HasMember set c

abbrev pub CharacterEdges : Built → List ℕ → Edges
CharacterEdges b text symbol from to = (to ≡ suc from) × ((c : ℕ) × (slice_get text from ≡ Some c) × IsInSet b symbol c)

-- the start, by its place among the starts, derives the characters between two places
abbrev pub Matches : Built → List ℕ → (start from to : ℕ) → Type 0
Matches b text start from to = (tree : Tree) × Derives b.l0 (CharacterEdges b text) (slot_of (slice_index b.l0.starts start)) from to tree
