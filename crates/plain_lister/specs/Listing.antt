-- A list of derivations, and what their lines are told from: the names of the symbols, the left sides of the rules and
-- the input.
use Rattle.std.specs.Prelude.{ℕ, List, [], map, pos, false, string_bytes}
use Rattle.grammar_model.specs.declared.Assoc.TheVariants.{Left}
use Rattle.grammar_model.specs.Grammar.{WrittenRule, Plain}
use Rattle.grammar_model.specs.Trees.{Tree}
use Rattle.grammar_model.specs.Characters.{tree_line}
use Rattle.plain_lister.specs.declared.Derivations.{Derivations}
use Rattle.plain_lister.specs.Arena.{tree_at}

-- the derivations, in order
abbrev pub trees_of : Derivations → List Tree
trees_of list = map (tree_at list.cells.items) list.trees.items

-- a rule of which the left side alone is known
abbrev pub bare_rule : ℕ → WrittenRule
bare_rule lhs = Plain (record { lhs = lhs; rhs = []; level = 0; groups = 1; assoc = Left; rank = pos 0; null_high = false })

-- the line of a derivation
abbrev pub line_of : Derivations → Tree → List ℕ
line_of list t = tree_line (record { names = map string_bytes list.names.items; rules = map bare_rule list.lefts.items; starts = [] }) list.input.items t
