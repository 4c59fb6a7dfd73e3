-- The value of an adverb in lists that stand one after another.
use Rattle.std.proofs.Common.{◌≡◌, ℕ, Bool, true, false, cond, List, [], ◌∷◌, ◌++◌, Some, refl, map}
use Rattle.std.specs.Prelude.{flat_map, option_to_list, bytes_eq}
use Rattle.language_model.specs.Tokens.{Spelled}
use Rattle.language_model.specs.Description.{Adverb, Comma, Pair}
use Rattle.language_model.specs.Building.{value_of, lexeme_default_adverbs}
use Rattle.dsl_statement.specs.declared.statement.Statement.{Statement as HeldStatement}
use Rattle.dsl_statement.specs.Statements.{statement_of}
use Rattle.dsl_faults.specs.Found.{first_of}

value_of_more : (name : List ℕ) (xs ys : List Adverb) (vs : List Spelled) → value_of name ys ≡ first_of vs → value_of name (xs ++ ys) ≡ first_of (option_to_list (value_of name xs) ++ vs)
value_of_more name [] ys vs e = e
value_of_more name (Comma at ∷ xs) ys vs e = value_of_more name xs ys vs e
value_of_more name (Pair n v ∷ xs) ys vs e = go (bytes_eq n.content name) (value_of_more name xs ys vs e)
  where
    go : (b : Bool) → value_of name (xs ++ ys) ≡ first_of (option_to_list (value_of name xs) ++ vs) → cond b (Some v) (value_of name (xs ++ ys)) ≡ first_of (option_to_list (cond b (Some v) (value_of name xs)) ++ vs)
    go true e = refl
    go false e = e

-- the value that a statement has for the adverb
abbrev pub values_in : List ℕ → HeldStatement → List Spelled
values_in name s = option_to_list (value_of name (lexeme_default_adverbs (statement_of s)))

pub default_first : (name : List ℕ) (ss : List HeldStatement) → value_of name (flat_map lexeme_default_adverbs (map statement_of ss)) ≡ first_of (flat_map (values_in name) ss)
default_first name [] = refl
default_first name (s ∷ ss) = value_of_more name (lexeme_default_adverbs (statement_of s)) (flat_map lexeme_default_adverbs (map statement_of ss)) (flat_map (values_in name) ss) (default_first name ss)
