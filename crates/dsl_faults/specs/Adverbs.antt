-- The places of adverbs, as a program holds them, and what is wrong with a list of adverbs.
use Rattle.std.specs.Prelude.{ℕ, Bool, Option, Some, None, not, ◌&&◌, nat_lt, List, [], ◌∷◌, filter, flat_map, map, codes}
use Rattle.std.specs.Char.{is_ascii_digit}
use Rattle.language_model.specs.Tokens.{Spelled}
use Rattle.language_model.specs.Description.{Adverb, Statement}
use Rattle.language_model.specs.Building as building
use Rattle.language_model.specs.Building.{AdverbPlace, Fault, fault_at, at_most, names_at, is_one_of, fits_adverb, digits_number, pairs_of, repeated_in, adverb_lists}
use Rattle.dsl_statement.specs.declared.statement.Adverb.{Adverb as HeldAdverb}
use Rattle.dsl_statement.specs.Statements.{adverb_of, adverbs_of}
use Rattle.dsl_faults.specs.declared.checks.Check.{Check}
use Rattle.dsl_faults.specs.declared.checks.Check.TheVariants.{Known, Once, Small}
use Rattle.dsl_faults.specs.declared.adverbs.Place.{Place}
use Rattle.dsl_faults.specs.declared.adverbs.Place.TheVariants.{Alternative, Empty, Quantified, LexicalQuantified, Default, LexemeDefault, Lexeme, Other}

abbrev pub place_of : Place → AdverbPlace
place_of Alternative = building.InAlternative
place_of Empty = building.InEmpty
place_of Quantified = building.InQuantified
place_of LexicalQuantified = building.InLexicalQuantified
place_of Default = building.InDefault
place_of LexemeDefault = building.InLexemeDefault
place_of Lexeme = building.InLexeme
place_of Other = building.InOther

-- a rank or a priority beyond a million
abbrev pub is_big : List ℕ → Spelled → Bool
is_big name value = is_one_of (codes "rank" ∷ codes "priority" ∷ []) name && nat_lt 1000000 (digits_number (filter is_ascii_digit value.content))

abbrev pub big_faults : List Adverb → List Fault
big_faults adverbs = flat_map (λ p. at_most (is_big p.0.content p.1) (fault_at p.1)) (pairs_of adverbs)

-- the names of adverbs
abbrev pub names_of : List HeldAdverb → List (List ℕ)
names_of adverbs = map (λ p. p.0.content) (pairs_of (adverbs_of adverbs))

-- what an adverb after these repeats
abbrev pub repeat_of : List HeldAdverb → Option HeldAdverb → List Fault
repeat_of before None = []
repeat_of before (Some a) = repeated_in (names_of before) (pairs_of (adverb_of a ∷ []))

-- what is wrong with a list of adverbs
abbrev pub list_faults : Check → AdverbPlace × List Adverb → List Fault
list_faults Known l = flat_map (λ p. at_most (not (is_one_of (names_at l.0) p.0.content && fits_adverb p.0.content p.1)) (fault_at p.0)) (pairs_of l.1)
list_faults Once l = repeated_in [] (pairs_of l.1)
list_faults Small l = big_faults l.1

abbrev pub statement_faults : Check → Statement → List Fault
statement_faults check s = flat_map (list_faults check) (adverb_lists s)
