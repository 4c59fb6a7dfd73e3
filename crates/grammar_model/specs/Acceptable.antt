-- Acceptable terminals: those with which the edges so far, spelled out by one path, can go on to a derivation of the
-- start. The definition asks for the rest of such a reading, and not for what an item set holds.
-- Source: Earley 1970; the Libmarpa manual (expected terminals).
use Rattle.std.specs.Prelude.{◌≡◌, ℕ, List, [], ◌∷◌, ◌++◌, length}
use Rattle.grammar_model.specs.Grammar.{Grammar, slot_of}
use Rattle.grammar_model.specs.Trees.{Tree}
use Rattle.grammar_model.specs.Derives.{Edges, Line, Derives}

-- a path of edges from p to q that spells these terminals
abbrev pub Spells : Edges → ℕ → ℕ → List ℕ → Type 0
Spells edge p q [] = p ≡ q
Spells edge p q (symbol ∷ symbols) = (r : ℕ) × edge symbol p r × Spells edge r q symbols

pub record IsAcceptable (g : Grammar) (edge : Edges) (start terminal p : ℕ) : Type 0 where
  pub before : List ℕ
  pub after : List ℕ
  pub tree : Tree
  pub spelled : Spells edge 0 p before
  pub derived : Derives g (Line (before ++ terminal ∷ after)) (slot_of start) 0 (length (before ++ terminal ∷ after)) tree
