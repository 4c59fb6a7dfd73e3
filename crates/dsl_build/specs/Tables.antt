-- What a program's tables mean, and a lexeme's row by tables.
use Rattle.std.specs.Prelude.{ℕ, ℤ, false, List, [], ◌∷◌, pos, Option, Some, None, option_map, unwrap_or, bytes_eq, codes, slice_index_or}
use Rattle.language_model.specs.Tokens.{Spelled}
use Rattle.language_model.specs.Description.{Adverb, Statement, Lexeme}
use Rattle.language_model.specs.Building.{LexemeRow, place_in, number_of, value_of}
use Rattle.dsl_build.specs.declared.built.LexemeRow.{LexemeRow as HeldRow}

abbrev pub row_of : HeldRow → LexemeRow
row_of r = record { symbol = r.symbol; start = r.start; priority = r.priority; latm = r.latm }

-- the name and the adverbs of a `:lexeme` statement
abbrev pub lexeme_parts : Statement → List (List ℕ × List Adverb)
lexeme_parts (Lexeme at name adverbs) = (name.content, adverbs) ∷ []
lexeme_parts _ = []

-- the list at the place of the name, if it has one
abbrev pub adverbs_at : List (List ℕ) → List (List Adverb) → List ℕ → List Adverb
adverbs_at names lists name = slice_index_or lists (place_in names name) []

abbrev pub or_else : {A : Type 0} → Option A → Option A → Option A
or_else (Some x) other = Some x
or_else None other = other

-- the priority that adverbs tell
abbrev pub priority_of : List Adverb → ℤ
priority_of adverbs = unwrap_or (option_map (λ t. number_of t.content) (value_of (codes "priority") adverbs)) (pos 0)

-- the row of a lexeme with adverbs of its own, and with what the default says of `latm`
abbrev pub row_from : (symbols starts : List (List ℕ)) → List Adverb → Option Spelled → List ℕ → LexemeRow
row_from symbols starts own default name = record {
  symbol = place_in symbols name;
  start = place_in starts name;
  priority = priority_of own;
  latm = unwrap_or (option_map (λ t. bytes_eq t.content (codes "1")) (or_else (value_of (codes "latm") own) default)) false;
}
