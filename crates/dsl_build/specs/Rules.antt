-- A grammar with more rules, and with more symbols.
use Rattle.std.specs.Prelude.{◌≡◌, ℕ, List, ◌++◌, map}
use Rattle.grammar_model.specs.Grammar.{WrittenRule, Grammar}
use Rattle.grammar_core.specs.Written.{rule_of}
use Rattle.grammar_core.specs.declared.rule.WrittenRule as held
use Rattle.language_model.specs.Building.{set_names}

-- these rules stand after the others
abbrev pub AddsRules : (old new : List held.WrittenRule) → List WrittenRule → Type 0
AddsRules old new more = map rule_of new ≡ map rule_of old ++ more

abbrev pub with_rules : Grammar → List WrittenRule → Grammar
with_rules g rules = record { names = g.names; rules = g.rules ++ rules; starts = g.starts }

abbrev pub with_names : Grammar → List (List ℕ) → Grammar
with_names g names = record { names = g.names ++ names; rules = g.rules; starts = g.starts }

abbrev pub with_starts : Grammar → List ℕ → Grammar
with_starts g starts = record { names = g.names; rules = g.rules; starts = g.starts ++ starts }

-- a grammar of these names, with symbols of so many sets after them
abbrev pub grammar_with : (names : List (List ℕ)) (sets : ℕ) → List WrittenRule → (starts : List ℕ) → Grammar
grammar_with names sets rules starts = record { names = names ++ set_names sets; rules = rules; starts = starts }
