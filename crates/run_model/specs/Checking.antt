-- What job `check` tells of accepted grammars: how many rules, lexemes and discards there are, and what each left side of the
-- structural grammar can do.
-- Source: the usual analyses of context-free grammars, and the Libmarpa manual (precomputation); the lines are our own.
use Rattle.std.specs.Prelude.{◌≡◌, ℕ, ◌++◌, List, [], ◌∷◌, length, map, All, Bool, not, ◌↔◌, IsTrue, if◌then◌else◌, codes, decimal}
use Rattle.grammar_model.specs.Grammar.{WrittenRule, Grammar, slot_of, lhs_of, occurs}
use Rattle.grammar_model.specs.Analysis.{IsNullable, IsProductive, IsAccessible}
use Rattle.grammar_model.specs.Values.{name_of}
use Rattle.language_model.specs.Building.{Built}

-- the left sides of the rules, in the order of the first rule of each; those of `before` are left out
abbrev pub left_sides : (before : List ℕ) → List WrittenRule → List ℕ
left_sides before [] = []
left_sides before (r ∷ rs) = if occurs (lhs_of r) before then left_sides before rs else lhs_of r ∷ left_sides (lhs_of r ∷ before) rs

-- what a symbol can do
pub record SymbolRow : Type 0 where
  pub symbol : ℕ
  pub nullable : Bool
  pub productive : Bool
  pub accessible : Bool

-- a symbol is accessible where it is so at some level
pub record IsRowOf (g : Grammar) (row : SymbolRow) : Type 0 where
  pub nullable : IsTrue row.nullable ↔ IsNullable g (slot_of row.symbol)
  pub productive : IsTrue row.productive ↔ IsProductive g (slot_of row.symbol)
  pub accessible : IsTrue row.accessible ↔ ((level : ℕ) × IsAccessible g (record { symbol = row.symbol; level = level }))

-- the rows of all left sides
pub record AreRows (g : Grammar) (rows : List SymbolRow) : Type 0 where
  pub symbols : map (λ r. r.symbol) rows ≡ left_sides [] g.rules
  pub each : All (IsRowOf g) rows

abbrev pub head_line : Built → List ℕ
head_line b =
    codes "accepted: " ++ (decimal (length b.g1.rules) ++ (codes " rules, " ++ (decimal (length b.lexemes) ++ (codes " lexemes, "
    ++ (decimal (length b.discards) ++ codes " discards\n")))))

-- a word that is told where it holds
abbrev pub word_if : Bool → List ℕ → List ℕ
word_if holds word = if holds then word else []

abbrev pub row_line : Grammar → SymbolRow → List ℕ
row_line g row =
    name_of g row.symbol ++ word_if row.nullable (codes " nullable") ++ word_if (not row.productive) (codes " unproductive")
    ++ word_if (not row.accessible) (codes " inaccessible") ++ 10 ∷ []

-- the lines that are told of the grammars
pub record AreCheckLines (b : Built) (lines : List (List ℕ)) : Type 0 where
  pub rows : List SymbolRow
  pub are_rows : AreRows b.g1 rows
  pub lines_are : lines ≡ head_line b ∷ map (row_line b.g1) rows
