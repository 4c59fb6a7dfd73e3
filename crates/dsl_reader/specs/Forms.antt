-- Statements read from their pieces, by their first tokens.
use Rattle.std.specs.Prelude.{ℕ, suc, Bool, not, ◌&&◌, ◌||◌, if◌then◌else◌, List, [], ◌∷◌, length, drop, codes, Option, Some, None, option_map}
use Rattle.language_model.specs.Tokens.{Spelled}
use Rattle.language_model.specs.Description.{Hidden, Adverb, Pair, Alternative, Statement, Start, Default, LexemeDefault, Lexeme, Discard, Empty, Quantified, Rules, is_mark, is_word_of, is_name, is_pseudo, is_one, is_some, onto_first}
use Rattle.dsl_reader.specs.Pieces.{first_is, first_such, first_place, is_pseudo_of, is_single}
use Rattle.dsl_reader.specs.Reading.{is_pair, adverbs_of, add_element, alternative_of, begins_adverb}

abbrev pub pair_of : List Spelled → Option Adverb
pair_of [] = None
pair_of (t ∷ []) = None
pair_of (t ∷ u ∷ []) = None
pair_of (t ∷ u ∷ v ∷ ts) = if is_pair t u v then Some (Pair t v) else None

-- nothing, or an adverb
abbrev pub ends_elements : List Spelled → Bool
ends_elements ts = not (is_some ts) || begins_adverb ts

abbrev pub rule_begins : List Spelled → Bool
rule_begins ts = first_is is_name ts && (first_is (is_mark (codes "::=")) (drop 1 ts) || first_is (is_mark (codes "~")) (drop 1 ts))

abbrev pub default_begins : List Spelled → Bool
default_begins ts = first_is (is_word_of (codes "lexeme")) ts && first_is (is_word_of (codes "default")) (drop 1 ts) && first_is (is_mark (codes "=")) (drop 2 ts)

abbrev pub piece_begins : List Spelled → Bool
piece_begins ts = first_is is_pseudo ts || rule_begins ts || default_begins ts

-- parts in round brackets, before what follows them
abbrev pub hidden_behind : Option (List Spelled) → List Spelled → Option Alternative
hidden_behind None ts = None
hidden_behind (Some parts) ts = add_element (Hidden parts) (alternative_of (drop (suc (length parts)) ts) None)

abbrev pub behind_some : {A B : Type 0} → Option A → (A → Option B) → Option B
behind_some None f = None
behind_some (Some x) f = f x

abbrev pub both_some : {B : Type 0} → Option B → Option (List B) → Option (List B)
both_some None ys = None
both_some (Some y) None = None
both_some (Some y) (Some ys) = Some (y ∷ ys)

-- what each of the lists is read as, where each is
abbrev pub all_read : {A B : Type 0} → (A → Option B) → List A → Option (List B)
all_read read [] = Some []
all_read read (x ∷ xs) = both_some (read x) (all_read read xs)

-- the tokens between the marks
unfoldable pub between : List ℕ → List Spelled → List (List Spelled)
between m [] = [] ∷ []
between m (t ∷ ts) = if is_mark m t then [] ∷ between m ts else onto_first t (between m ts)

abbrev pub some_elements : Alternative → Option Alternative
some_elements a = if is_some a.elements then Some a else None

unfoldable pub full_alternative_of : List Spelled → Option Alternative
full_alternative_of ts = behind_some (alternative_of ts None) some_elements

unfoldable pub group_of : List Spelled → Option (List Alternative)
group_of ts = all_read full_alternative_of (between (codes "|") ts)

unfoldable pub groups_of : List Spelled → Option (List (List Alternative))
groups_of ts = all_read group_of (between (codes "||") ts)

unfoldable pub start_of : List Spelled → Option Statement
start_of p = behind_some (first_such is_name (drop 2 p)) (λ name. if is_some (drop 3 p) then None else Some (Start (first_place p) name))

unfoldable pub default_of : List Spelled → Option Statement
default_of p = option_map (Default (first_place p)) (adverbs_of (drop 2 p))

unfoldable pub lexeme_default_of : List Spelled → Option Statement
lexeme_default_of p = option_map (LexemeDefault (first_place p)) (adverbs_of (drop 3 p))

unfoldable pub lexeme_of : List Spelled → Option Statement
lexeme_of p = behind_some (first_such is_name (drop 2 p)) (λ name. option_map (Lexeme (first_place p) name) (adverbs_of (drop 3 p)))

unfoldable pub discard_of : List Spelled → Option Statement
discard_of p = behind_some (first_such is_single (drop 2 p)) (λ item. option_map (Discard (first_place p) item) (adverbs_of (drop 3 p)))

unfoldable pub pseudo_of : List Spelled → Option Statement
pseudo_of p =
    if first_is (is_pseudo_of (codes ":start")) p && first_is (is_mark (codes "::=")) (drop 1 p) then start_of p
    else (if first_is (is_pseudo_of (codes ":default")) p && first_is (is_mark (codes "::=")) (drop 1 p) then default_of p
    else (if first_is (is_pseudo_of (codes ":lexeme")) p && first_is (is_mark (codes "~")) (drop 1 p) then lexeme_of p
    else (if first_is (is_pseudo_of (codes ":discard")) p && first_is (is_mark (codes "~")) (drop 1 p) then discard_of p
    else None)))

unfoldable pub quantified_of : Spelled → Bool → List Spelled → Option Statement
quantified_of left lexical p = behind_some (first_such is_single (drop 2 p)) (λ item. option_map (Quantified left lexical item (first_is (is_mark (codes "+")) (drop 3 p))) (adverbs_of (drop 4 p)))

-- a lexical rule has one group
unfoldable pub rules_of : Spelled → Bool → List Spelled → Option Statement
rules_of left lexical p = behind_some (groups_of (drop 2 p)) (λ groups. if lexical && not (is_one groups) then None else Some (Rules left lexical groups))

unfoldable pub right_of : Spelled → Bool → List Spelled → Option Statement
right_of left lexical p =
    if ends_elements (drop 2 p) then option_map (Empty left lexical) (adverbs_of (drop 2 p))
    else (if first_is (is_mark (codes "*")) (drop 3 p) || first_is (is_mark (codes "+")) (drop 3 p) then quantified_of left lexical p
    else rules_of left lexical p)

unfoldable pub rule_of : List Spelled → Option Statement
rule_of p = behind_some (first_such is_name p) (λ left. right_of left (first_is (is_mark (codes "~")) (drop 1 p)) p)

-- the statement that the tokens are, all of them
unfoldable pub statement_in : List Spelled → Option Statement
statement_in p =
    if first_is is_pseudo p then pseudo_of p
    else (if first_is (is_mark (codes "::=")) (drop 1 p) || first_is (is_mark (codes "~")) (drop 1 p) then rule_of p
    else (if default_begins p then lexeme_default_of p
    else None))
