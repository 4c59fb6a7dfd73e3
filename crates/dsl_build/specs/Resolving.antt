-- What a description names, as numbers.
use Rattle.std.specs.Prelude.{◌≡◌, ℕ, Bool, true, false, not, ◌&&◌, ◌||◌, List, [], ◌∷◌, codes, Option, Some, None, map, flat_map, filter}
use Rattle.language_model.specs.Description.{Alternative, Statement}
use Rattle.language_model.specs.Building.{is_of_level, parts_of, numbers_in, assoc_of, rank_of, says, rules_of, named_l0, grammar_g1, grammar_l0, built_of}
use Rattle.grammar_model.specs.Grammar.{WrittenRule, Plain}
use Rattle.grammar_core.specs.Written.{rule_of}
use Rattle.dsl_statement.specs.declared.statement.Level.{Level}
use Rattle.dsl_statement.specs.Statements.{is_lexical}
use Rattle.dsl_build.specs.declared.resolving.Resolved.{Resolved}
use Rattle.dsl_build.specs.Tables.{row_of}

-- there is a level, and it is this one
abbrev pub is_at : Bool → Option Level → Bool
is_at lexical (Some l) = (lexical && is_lexical l) || (not lexical && not (is_lexical l))
is_at lexical None = false

-- the rule of an alternative, by the number of its left side
abbrev pub plain_with : List (List ℕ) → (lhs level groups : ℕ) → Alternative → WrittenRule
plain_with names lhs level groups a = Plain (record { lhs = lhs; rhs = numbers_in names (parts_of a); level = level; groups = groups; assoc = assoc_of a.adverbs; rank = rank_of a.adverbs; null_high = says (codes "null-ranking") (codes "high") a.adverbs })

-- the rules of a statement, if they are of the level
abbrev pub rules_at : Bool → List (List ℕ) → Statement → List WrittenRule
rules_at lexical names s = flat_map (rules_of names) (filter (is_of_level lexical) (s ∷ []))

-- the numbers are those of the names
pub record IsResolved (d : List Statement) (r : Resolved) : Type 0 where
  pub structural : map rule_of r.rules.structural.items ≡ (grammar_g1 d).rules
  pub lexical : map rule_of r.rules.lexical.items ≡ flat_map (rules_of (named_l0 d)) (filter (is_of_level true) d)
  pub start : r.start.items ≡ (grammar_g1 d).starts
  pub starts : r.starts.items ≡ (grammar_l0 d).starts
  pub lexemes : map row_of r.lexemes.items ≡ (built_of d).lexemes
  pub discards : r.discards.items ≡ (built_of d).discards
