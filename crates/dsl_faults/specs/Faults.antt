-- Faults of the uses of symbols, by tables of the names that rules define.
use Rattle.std.specs.Prelude.{ℕ, Bool, true, false, not, ◌&&◌, ◌||◌, if◌then◌else◌, List, [], ◌∷◌, ◌++◌, map, flat_map, codes, is_ok, chars, length, nat_lt, ◌==◌}
use Rattle.language_model.specs.Tokens.{Spelled}
use Rattle.language_model.specs.Description.{Statement, Start, LexemeDefault, Lexeme, is_name}
use Rattle.language_model.specs.Classes.{class_of}
use Rattle.language_model.specs.Building.{Fault, fault_at, at_most, is_one_of, is_bracket, is_quote, quoted, BuildFault, BadAdverb, RepeatedAdverb, LexemeNotDefined, InBoth, NotALexeme, BadClass, TwoStarts, NumberRange, TooLong, bad_adverbs, repeated, in_both, second_starts, big_numbers, too_long}
use Rattle.dsl_faults.specs.Texts.{with_text}
use Rattle.dsl_faults.specs.Uses.{Used, is_left, is_right}
use Rattle.dsl_faults.specs.declared.seconds.Seen.{Seen}
use Rattle.dsl_faults.specs.declared.symbols.Lefts.{Lefts}

-- a name on a right side that no rule defines, or in a lexical place no lexical rule
abbrev pub is_undefined : (structural lexical : List (List ℕ)) → Used → Bool
is_undefined structural lexical u = is_right u && (is_name u.token && not (is_one_of lexical u.token.content || (not u.lexical && is_one_of structural u.token.content)))

abbrev pub is_bad_class : Used → Bool
is_bad_class u = is_right u && (is_bracket u.token && not (is_ok (class_of (chars u.token.content))))

abbrev pub undefined_fault : (structural lexical : List (List ℕ)) → Used → List Fault
undefined_fault structural lexical u = at_most (is_undefined structural lexical u) (fault_at u.token)

abbrev pub class_fault : Used → List Fault
class_fault u = at_most (is_bad_class u) (fault_at u.token)

-- a left side of one level that is one of the other
abbrev pub both_fault : (structural lexical : List (List ℕ)) → Used → List Fault
both_fault structural lexical u = at_most (is_left u && is_one_of (if u.lexical then structural else lexical) u.token.content) (fault_at u.token)

-- the left sides after one more use
abbrev pub lefts_after : Lefts → Used → Lefts
lefts_after lefts u = if is_left u then (if u.lexical then record { structural = lefts.structural; lexical = with_text lefts.lexical u.token.content } else record { structural = with_text lefts.structural u.token.content; lexical = lefts.lexical }) else lefts

abbrev pub left_part : Used → List (Bool × Spelled)
left_part u = if is_left u then (u.lexical, u.token) ∷ [] else []

-- the name of a `:lexeme` that is no symbol, or one that a structural rule defines
abbrev pub lexeme_fault : (symbols left : List (List ℕ)) → Statement → List Fault
lexeme_fault symbols left (Lexeme at name adverbs) = at_most (not (is_one_of symbols name.content && not (is_one_of left name.content))) (fault_at name)
lexeme_fault symbols left _ = []

-- a second statement of its kind
abbrev pub second_fault : Bool → List (List ℕ) → Statement → List Fault
second_fault seen lexemes (LexemeDefault at adverbs) = at_most seen (record { at = at; name = codes "lexeme default" })
second_fault seen lexemes (Lexeme at name adverbs) = at_most (is_one_of lexemes name.content) (record { at = at; name = codes ":lexeme" })
second_fault seen lexemes _ = []

abbrev pub seen_after : Seen → Statement → Seen
seen_after seen (LexemeDefault at adverbs) = record { alloc = seen.alloc; default = true; lexemes = seen.lexemes }
seen_after seen (Lexeme at name adverbs) = record { alloc = seen.alloc; default = seen.default; lexemes = with_text seen.lexemes name.content }
seen_after seen _ = seen

abbrev pub start_fault : Statement → List Fault
start_fault (Start at name) = record { at = at; name = codes ":start" } ∷ []
start_fault _ = []

abbrev pub is_start : Statement → Bool
is_start (Start at name) = true
is_start _ = false

-- the part after so many others, or a quoted text, is too long
abbrev pub long_fault : ℕ → Spelled → List Fault
long_fault before t = at_most (before == 1000 || (is_quote t && nat_lt 1000 (length (quoted t.content)))) (fault_at t)

-- the faults of a description with these uses of symbols, kind after kind
abbrev pub all_faults : (symbols structural lexical : List (List ℕ)) → List Used → List Statement → List BuildFault
all_faults symbols structural lexical us d =
    map BadAdverb (bad_adverbs d) ++ map RepeatedAdverb (repeated [] d) ++ map LexemeNotDefined (flat_map (undefined_fault structural lexical) us)
    ++ map InBoth (in_both [] (flat_map left_part us)) ++ map NotALexeme (flat_map (lexeme_fault symbols structural) d) ++ map BadClass (flat_map class_fault us)
    ++ map TwoStarts (second_starts d) ++ map NumberRange (big_numbers d) ++ map TooLong (too_long d)
