-- A flat grammar as a grammar: its rules without levels, and an empty rule for each marked symbol. Derivations, their order
-- and the list of all of them are read there; item sets are read over the flat grammar, where no empty rule is predicted.
use Rattle.std.specs.Prelude.{ℕ, suc, ◌↔◌, Bool, true, false, List, [], ◌∷◌, ◌++◌, map, pos}
use Rattle.grammar_model.specs.declared.Assoc.TheVariants.{Left}
use Rattle.grammar_model.specs.Grammar.{WrittenRule, Plain, Grammar, slot_of}
use Rattle.grammar_model.specs.Trees.{Tree}
use Rattle.grammar_model.specs.Derives.{Edges, Derives}
use Rattle.recognizer_model.specs.Flat.{FlatGrammar, lhs_of}
use Rattle.recognizer_model.specs.FlatDerives

abbrev pub plain_rule : ℕ → List ℕ → WrittenRule
plain_rule lhs rhs = Plain (record { lhs = lhs; rhs = rhs; level = 0; groups = 1; assoc = Left; rank = pos 0; null_high = false })

-- an empty rule for each marked symbol, of which the first has that number
abbrev pub empty_rules : ℕ → List Bool → List WrittenRule
empty_rules x [] = []
empty_rules x (true ∷ marks) = plain_rule x [] ∷ empty_rules (suc x) marks
empty_rules x (false ∷ marks) = empty_rules (suc x) marks

-- its starts are the tops
abbrev pub grammar_view : FlatGrammar → Grammar
grammar_view g = record { names = []; rules = map (λ r. plain_rule r.lhs r.rhs) g.rules ++ empty_rules 0 g.nullable; starts = map (lhs_of g) g.tops }

-- by its rules of inference a flat grammar derives what its view does
abbrev pub SameDerivations : FlatGrammar → Edges → Type 0
SameDerivations g E = (x p q : ℕ) (t : Tree) → FlatDerives.Derives g E x p q t ↔ Derives (grammar_view g) E (slot_of x) p q t
