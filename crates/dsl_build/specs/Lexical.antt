-- The tokens that have a place in the lexical grammar, and what it adds.
use Rattle.std.specs.Prelude.{ℕ, Bool, ◌&&◌, ◌||◌, if◌then◌else◌, List, [], ◌∷◌, ◌++◌, flat_map, decimal, length, pos, false, Result, Ok, Err}
use Rattle.language_model.specs.Tokens.{Spelled}
use Rattle.language_model.specs.Classes.{Class}
use Rattle.language_model.specs.Building.{is_quote_or_bracket, count_from, sets_of, added_rules}
use Rattle.grammar_model.specs.declared.Assoc.TheVariants.{Left}
use Rattle.grammar_model.specs.Grammar.{Grammar, WrittenRule, Plain}
use Rattle.dsl_faults.specs.Uses.{Used, is_left, is_right}
use Rattle.dsl_build.specs.Rules.{grammar_with}

abbrev pub is_placed : Used → Bool
is_placed u = (is_left u && u.lexical) || (is_right u && (u.lexical || is_quote_or_bracket u.token))

abbrev pub placed_part : Used → List Spelled
placed_part u = if is_placed u then u.token ∷ [] else []

-- the name of a character set's symbol
abbrev pub set_name : ℕ → List ℕ
set_name k = 58 ∷ decimal k

abbrev pub class_sets : {E : Type 0} → Result Class E → List Class
class_sets (Ok k) = k ∷ []
class_sets (Err e) = []

-- the rule of a quoted text or a class, with this many sets
abbrev pub added_of : (number next count : ℕ) → Spelled → List WrittenRule
added_of number next count t = if is_quote_or_bracket t then Plain (record { lhs = number; rhs = count_from next count; level = 0; groups = 1; assoc = Left; rank = pos 0; null_high = false }) ∷ [] else []

abbrev pub added_rule : (number next : ℕ) → Spelled → List WrittenRule
added_rule number next t = added_of number next (length (sets_of t)) t

-- the grammar of these names, rules and starts, with the sets and the rules of the tokens
abbrev pub lexical_with : (names : List (List ℕ)) → List WrittenRule → List Spelled → (starts : List ℕ) → Grammar
lexical_with names rules tokens starts = grammar_with names (length (flat_map sets_of tokens)) (rules ++ added_rules 0 (length names) tokens) starts
