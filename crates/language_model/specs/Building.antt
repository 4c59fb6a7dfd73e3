-- The two grammars of a description, with their tables, or its first fault.
use Rattle.std.specs.Prelude.{ℕ, zero, suc, ◌+◌, ◌-◌, ◌*◌, ℤ, pos, neg_ℤ, Bool, true, false, not, ◌&&◌, ◌||◌, ◌==◌, nat_lt, if◌then◌else◌, List, [], ◌∷◌, ◌++◌, length, map, filter, filter_map, flat_map, take, drop, bytes_eq, codes, Option, Some, None, Result, Ok, Err, is_some, is_ok, unwrap_or, option_map, option_to_list, decimal, chars}
use Rattle.std.specs.List.{list_all, list_any, position_or_len}
use Rattle.std.specs.Char.{is_ascii_digit}
use Rattle.language_model.specs.declared.token.TokenKind.{TokenKind}
use Rattle.language_model.specs.declared.token.TokenKind.TheVariants.{Word, Angle, Quote, Bracket, Reserved, Signed}
use Rattle.grammar_model.specs.declared.Assoc.{Assoc}
use Rattle.grammar_model.specs.declared.Assoc.TheVariants.{Left, Right, Group}
use Rattle.grammar_model.specs.Grammar.{WrittenRule, Plain, Sequence, Grammar}
use Rattle.grammar_model.specs.Values.{Action, MakeUndefined, RuleMeaning, Meaning}
pub use Rattle.grammar_model.specs.Limits.{digits_number}
use Rattle.language_model.specs.Tokens.{Spelled}
use Rattle.language_model.specs.Classes.{Class, class_of, class_of_char, modifier_len}
use Rattle.language_model.specs.Actions.{action_of}
use Rattle.language_model.specs.Description.{Element, Bare, Hidden, Adverb, Comma, Pair, Alternative, Statement, Start, Default, LexemeDefault, Lexeme, Discard, Empty, Quantified, Rules, is_name}

-- READING A STATEMENT

-- which table of adverbs holds at a list of adverbs
pub data AdverbPlace : Type 0 where
  InAlternative : AdverbPlace
  InEmpty : AdverbPlace
  InQuantified : AdverbPlace
  InLexicalQuantified : AdverbPlace
  InDefault : AdverbPlace
  InLexemeDefault : AdverbPlace
  InLexeme : AdverbPlace
  InOther : AdverbPlace

-- the lists of adverbs of a statement, in order
abbrev pub adverb_lists : Statement → List (AdverbPlace × List Adverb)
adverb_lists (Start at name) = []
adverb_lists (Default at adverbs) = (InDefault, adverbs) ∷ []
adverb_lists (LexemeDefault at adverbs) = (InLexemeDefault, adverbs) ∷ []
adverb_lists (Lexeme at name adverbs) = (InLexeme, adverbs) ∷ []
adverb_lists (Discard at item adverbs) = (InOther, adverbs) ∷ []
adverb_lists (Empty left lexical adverbs) = (if lexical then InOther else InEmpty, adverbs) ∷ []
adverb_lists (Quantified left lexical item plus adverbs) = (if lexical then InLexicalQuantified else InQuantified, adverbs) ∷ []
adverb_lists (Rules left lexical groups) = flat_map (λ g. map (λ a. (if lexical then InOther else InAlternative, a.adverbs)) g) groups

abbrev pub pairs_of : List Adverb → List (Spelled × Spelled)
pairs_of [] = []
pairs_of (Comma at ∷ adverbs) = pairs_of adverbs
pairs_of (Pair name value ∷ adverbs) = (name, value) ∷ pairs_of adverbs

-- the value of the first adverb with the name
abbrev pub value_of : List ℕ → List Adverb → Option Spelled
value_of name [] = None
value_of name (Comma at ∷ adverbs) = value_of name adverbs
value_of name (Pair n value ∷ adverbs) = if bytes_eq n.content name then Some value else value_of name adverbs

abbrev pub parts_of_element : Element → List Spelled
parts_of_element (Bare part) = part ∷ []
parts_of_element (Hidden parts) = parts

abbrev pub shown_of_element : Element → List Bool
shown_of_element (Bare part) = true ∷ []
shown_of_element (Hidden parts) = map (λ t. false) parts

abbrev pub parts_of : Alternative → List Spelled
parts_of a = flat_map parts_of_element a.elements

abbrev pub alternatives_of : List (List Alternative) → List Alternative
alternatives_of groups = flat_map (λ g. g) groups

-- the separator that adverbs tell
abbrev pub separator_of : List Adverb → List Spelled
separator_of adverbs = option_to_list (value_of (codes "separator") adverbs)

-- the left side of a rule statement, and whether it is lexical
abbrev pub left_of : Statement → Option (Bool × Spelled)
left_of (Empty left lexical adverbs) = Some (lexical, left)
left_of (Quantified left lexical item plus adverbs) = Some (lexical, left)
left_of (Rules left lexical groups) = Some (lexical, left)
left_of _ = None

-- the symbols that rules of a statement have on their right sides, separators included, in order, and whether the rules are lexical
abbrev pub right_of : Statement → List (Bool × Spelled)
right_of (Quantified left lexical item plus adverbs) = map (λ t. (lexical, t)) (item ∷ separator_of adverbs)
right_of (Rules left lexical groups) = map (λ t. (lexical, t)) (flat_map parts_of (alternatives_of groups))
right_of (Discard at item adverbs) = (true, item) ∷ []
right_of _ = []

-- the number of a token of digits, with a sign or without
abbrev pub number_of : List ℕ → ℤ
number_of [] = pos 0
number_of (c ∷ cs) =
    if c == 45 then neg_ℤ (pos (digits_number cs))
    else (if c == 43 then pos (digits_number cs)
    else pos (digits_number (c ∷ cs)))

-- THE TABLE OF ADVERBS

abbrev pub is_one_of : List (List ℕ) → List ℕ → Bool
is_one_of texts t = list_any (λ u. bytes_eq u t) texts

abbrev pub names_at : AdverbPlace → List (List ℕ)
names_at InAlternative = codes "action" ∷ codes "assoc" ∷ codes "rank" ∷ codes "null-ranking" ∷ []
names_at InEmpty = codes "action" ∷ codes "rank" ∷ codes "null-ranking" ∷ []
names_at InQuantified = codes "action" ∷ codes "rank" ∷ codes "null-ranking" ∷ codes "separator" ∷ codes "proper" ∷ []
names_at InLexicalQuantified = codes "separator" ∷ codes "proper" ∷ []
names_at InDefault = codes "action" ∷ []
names_at InLexemeDefault = codes "action" ∷ codes "latm" ∷ []
names_at InLexeme = codes "priority" ∷ codes "latm" ∷ []
names_at InOther = []

abbrev pub is_number : Spelled → Bool
is_number t = is_number_kind t.kind t.content
  where
    is_number_kind : TokenKind → List ℕ → Bool
    is_number_kind Signed content = true
    is_number_kind Word content = list_all is_ascii_digit content
    is_number_kind _ content = false

abbrev pub is_single : Spelled → Bool
is_single t = is_kind t.kind
  where
    is_kind : TokenKind → Bool
    is_kind Word = true
    is_kind Angle = true
    is_kind Bracket = true
    is_kind _ = false

abbrev pub is_word_among : List (List ℕ) → Spelled → Bool
is_word_among texts t = is_kind t.kind && is_one_of texts t.content
  where
    is_kind : TokenKind → Bool
    is_kind Word = true
    is_kind _ = false

abbrev pub is_action : Spelled → Bool
is_action t = is_kind t.kind && is_some (action_of (chars t.content))
  where
    is_kind : TokenKind → Bool
    is_kind Reserved = true
    is_kind Bracket = true
    is_kind _ = false

-- the value is one of those that the adverb has
abbrev pub fits_adverb : List ℕ → Spelled → Bool
fits_adverb name value =
    if bytes_eq name (codes "action") then is_action value
    else (if bytes_eq name (codes "assoc") then is_word_among (codes "left" ∷ codes "right" ∷ codes "group" ∷ []) value
    else (if is_one_of (codes "rank" ∷ codes "priority" ∷ []) name then is_number value
    else (if bytes_eq name (codes "null-ranking") then is_word_among (codes "low" ∷ codes "high" ∷ []) value
    else (if bytes_eq name (codes "separator") then is_single value
    else is_word_among (codes "0" ∷ codes "1" ∷ []) value))))

-- FAULTS. Each is a list of places and names, in the order of the text.

pub record Fault : Type 0 where
  pub at : ℕ
  pub name : List ℕ

abbrev pub fault_at : Spelled → Fault
fault_at t = record { at = t.at; name = t.content }

abbrev pub at_most : Bool → Fault → List Fault
at_most b f = if b then f ∷ [] else []

-- an adverb that is not of the table of its place, or whose value is not of its kind
abbrev pub bad_adverbs : List Statement → List Fault
bad_adverbs d = flat_map (λ s. flat_map (λ l. flat_map (λ p. at_most (not (is_one_of (names_at l.0) p.0.content && fits_adverb p.0.content p.1)) (fault_at p.0)) (pairs_of l.1)) (adverb_lists s)) d

-- an adverb that stands twice in one list
abbrev pub repeated_in : (before : List (List ℕ)) → List (Spelled × Spelled) → List Fault
repeated_in before [] = []
repeated_in before (p ∷ ps) = at_most (is_one_of before p.0.content) (fault_at p.0) ++ repeated_in (p.0.content ∷ before) ps

abbrev pub is_lexeme_default : Statement → Bool
is_lexeme_default (LexemeDefault at adverbs) = true
is_lexeme_default _ = false

abbrev pub is_lexeme_of : List ℕ → Statement → Bool
is_lexeme_of name (Lexeme at n adverbs) = bytes_eq name n.content
is_lexeme_of name _ = false

-- a second `lexeme default`, or a second `:lexeme` for one lexeme
abbrev pub repeated_statement : (before : List Statement) → Statement → List Fault
repeated_statement before (LexemeDefault at adverbs) = at_most (list_any is_lexeme_default before) (record { at = at; name = codes "lexeme default" })
repeated_statement before (Lexeme at name adverbs) = at_most (list_any (is_lexeme_of name.content) before) (record { at = at; name = codes ":lexeme" })
repeated_statement before _ = []

abbrev pub repeated : (before : List Statement) → List Statement → List Fault
repeated before [] = []
repeated before (s ∷ ss) = repeated_statement before s ++ flat_map (λ l. repeated_in [] (pairs_of l.1)) (adverb_lists s) ++ repeated (s ∷ before) ss

-- the left sides of the structural rules, or of the lexical ones, or of all
abbrev pub lefts : List Statement → List (Bool × Spelled)
lefts d = filter_map left_of d

abbrev pub left_names : Bool → List Statement → List (List ℕ)
left_names lexical d = flat_map (λ l. if (lexical && l.0) || (not lexical && not l.0) then l.1.content ∷ [] else []) (lefts d)

abbrev pub all_left_names : List Statement → List (List ℕ)
all_left_names d = map (λ l. l.1.content) (lefts d)

-- a name that no rule has as its left side, or in lexical rules and `:discard` no lexical rule
abbrev pub not_defined : List Statement → List Fault
not_defined d = flat_map (λ s. flat_map (λ r. at_most (is_name r.1 && not (is_one_of (if r.0 then left_names true d else all_left_names d) r.1.content)) (fault_at r.1)) (right_of s)) d

-- a left side that stood on the other level before
abbrev pub in_both : (before : List (Bool × Spelled)) → List (Bool × Spelled) → List Fault
in_both before [] = []
in_both before (l ∷ ls) = at_most (list_any (λ b. bytes_eq b.1.content l.1.content && not ((b.0 && l.0) || (not b.0 && not l.0))) before) (fault_at l.1) ++ in_both (l ∷ before) ls

-- the structural symbols, in order of their first appearance
abbrev pub structural_names : Statement → List (List ℕ)
structural_names (Start at name) = name.content ∷ []
structural_names (Empty left lexical adverbs) = if lexical then [] else left.content ∷ []
structural_names (Quantified left lexical item plus adverbs) = if lexical then [] else left.content ∷ item.content ∷ map (λ t. t.content) (separator_of adverbs)
structural_names (Rules left lexical groups) = if lexical then [] else left.content ∷ map (λ t. t.content) (flat_map parts_of (alternatives_of groups))
structural_names _ = []

-- the texts, each once, where it comes first; those of `seen` are left out
abbrev pub new_texts : (seen : List (List ℕ)) → List (List ℕ) → List (List ℕ)
new_texts seen [] = []
new_texts seen (t ∷ ts) = if is_one_of seen t then new_texts seen ts else t ∷ new_texts (t ∷ seen) ts

abbrev pub symbols_g1 : List Statement → List (List ℕ)
symbols_g1 d = new_texts [] (flat_map structural_names d)

-- the structural symbols that no structural rule has as its left side
abbrev pub lexemes : List Statement → List (List ℕ)
lexemes d = filter (λ t. not (is_one_of (left_names false d) t)) (symbols_g1 d)

abbrev pub no_lexeme_of : List Statement → Statement → List Fault
no_lexeme_of d (Lexeme at name adverbs) = at_most (not (is_one_of (lexemes d) name.content)) (fault_at name)
no_lexeme_of d _ = []

abbrev pub not_lexemes : List Statement → List Fault
not_lexemes d = flat_map (no_lexeme_of d) d

abbrev pub is_bracket : Spelled → Bool
is_bracket t = is_kind t.kind
  where
    is_kind : TokenKind → Bool
    is_kind Bracket = true
    is_kind _ = false

abbrev pub is_quote : Spelled → Bool
is_quote t = is_kind t.kind
  where
    is_kind : TokenKind → Bool
    is_kind Quote = true
    is_kind _ = false

abbrev pub bad_classes : List Statement → List Fault
bad_classes d = flat_map (λ s. flat_map (λ r. at_most (is_bracket r.1 && not (is_ok (class_of (chars r.1.content)))) (fault_at r.1)) (right_of s)) d

abbrev pub start_places : Statement → List ℕ
start_places (Start at name) = at ∷ []
start_places _ = []

abbrev pub second_starts : List Statement → List Fault
second_starts d = map (λ at. record { at = at; name = codes ":start" }) (drop 1 (flat_map start_places d))

-- a rank or a priority beyond a million
abbrev pub big_numbers : List Statement → List Fault
big_numbers d = flat_map (λ s. flat_map (λ l. flat_map (λ p. at_most (is_one_of (codes "rank" ∷ codes "priority" ∷ []) p.0.content && nat_lt 1000000 (digits_number (filter is_ascii_digit p.1.content))) (fault_at p.1)) (pairs_of l.1)) (adverb_lists s)) d

-- the characters that a quoted text stands for
abbrev pub quoted : List ℕ → List ℕ
quoted text = chars (take (length text - modifier_len text - 2) (drop 1 text))

-- the parts of a right side from the first on, of which so many stood before
abbrev pub long_parts : (before : ℕ) → List Spelled → List Fault
long_parts before [] = []
long_parts before (t ∷ ts) = at_most (before == 1000 || (is_quote t && nat_lt 1000 (length (quoted t.content)))) (fault_at t) ++ long_parts (before + 1) ts

abbrev pub right_sides : Statement → List (List Spelled)
right_sides (Rules left lexical groups) = map parts_of (alternatives_of groups)
right_sides _ = []

abbrev pub too_long : List Statement → List Fault
too_long d = flat_map (λ s. flat_map (long_parts 0) (right_sides s)) d

pub data BuildFault : Type 0 where
  BadAdverb : Fault → BuildFault
  RepeatedAdverb : Fault → BuildFault
  LexemeNotDefined : Fault → BuildFault
  InBoth : Fault → BuildFault
  NotALexeme : Fault → BuildFault
  BadClass : Fault → BuildFault
  TwoStarts : Fault → BuildFault
  NumberRange : Fault → BuildFault
  TooLong : Fault → BuildFault

-- the faults of a description, kind after kind, each kind in the order of the text
abbrev pub faults_of : List Statement → List BuildFault
faults_of d =
    map BadAdverb (bad_adverbs d) ++ map RepeatedAdverb (repeated [] d) ++ map LexemeNotDefined (not_defined d)
    ++ map InBoth (in_both [] (lefts d)) ++ map NotALexeme (not_lexemes d) ++ map BadClass (bad_classes d)
    ++ map TwoStarts (second_starts d) ++ map NumberRange (big_numbers d) ++ map TooLong (too_long d)

-- THE STRUCTURAL GRAMMAR

-- the number of a name
abbrev pub place_in : List (List ℕ) → List ℕ → ℕ
place_in names t = position_or_len (bytes_eq t) names

abbrev pub numbers_in : List (List ℕ) → List Spelled → List ℕ
numbers_in names ts = map (λ t. place_in names t.content) ts

abbrev pub rank_of : List Adverb → ℤ
rank_of adverbs = unwrap_or (option_map (λ t. number_of t.content) (value_of (codes "rank") adverbs)) (pos 0)

abbrev pub says : List ℕ → List ℕ → List Adverb → Bool
says name text adverbs = unwrap_or (option_map (λ t. bytes_eq t.content text) (value_of name adverbs)) false

abbrev pub assoc_of : List Adverb → Assoc
assoc_of adverbs =
    if says (codes "assoc") (codes "right") adverbs then Right
    else (if says (codes "assoc") (codes "group") adverbs then Group
    else Left)

abbrev pub plain_rule : List (List ℕ) → Spelled → (level groups : ℕ) → Alternative → WrittenRule
plain_rule names left level groups a = Plain (record { lhs = place_in names left.content; rhs = numbers_in names (parts_of a); level = level; groups = groups; assoc = assoc_of a.adverbs; rank = rank_of a.adverbs; null_high = says (codes "null-ranking") (codes "high") a.adverbs })

-- the rules of groups, of which the first is the tightest
abbrev pub rules_of_groups : List (List ℕ) → Spelled → (count : ℕ) → List (List Alternative) → List WrittenRule
rules_of_groups names left count [] = []
rules_of_groups names left count (g ∷ gs) = map (plain_rule names left (length gs) count) g ++ rules_of_groups names left count gs

-- the rules of a statement, with the numbers that the names have
abbrev pub rules_of : List (List ℕ) → Statement → List WrittenRule
rules_of names (Empty left lexical adverbs) = Plain (record { lhs = place_in names left.content; rhs = []; level = 0; groups = 1; assoc = Left; rank = rank_of adverbs; null_high = says (codes "null-ranking") (codes "high") adverbs }) ∷ []
rules_of names (Quantified left lexical item plus adverbs) = Sequence (record { lhs = place_in names left.content; item = place_in names item.content; plus = plus; separator = option_map (λ t. place_in names t.content) (value_of (codes "separator") adverbs); proper = says (codes "proper") (codes "1") adverbs; rank = rank_of adverbs; null_high = says (codes "null-ranking") (codes "high") adverbs }) ∷ []
rules_of names (Rules left lexical groups) = rules_of_groups names left (length groups) groups
rules_of names _ = []

abbrev pub is_of_level : Bool → Statement → Bool
is_of_level lexical s = unwrap_or (option_map (λ l. (lexical && l.0) || (not lexical && not l.0)) (left_of s)) false

-- the name in `:start`, else the left side of the first structural rule
abbrev pub start_names : Statement → List (List ℕ)
start_names (Start at name) = name.content ∷ []
start_names _ = []

abbrev pub start_of : List Statement → List (List ℕ)
start_of d = take 1 (flat_map start_names d ++ left_names false d)

abbrev pub grammar_g1 : List Statement → Grammar
grammar_g1 d = record { names = symbols_g1 d; rules = flat_map (rules_of (symbols_g1 d)) (filter (is_of_level false) d); starts = map (place_in (symbols_g1 d)) (start_of d) }

-- THE LEXICAL GRAMMAR

abbrev pub is_quote_or_bracket : Spelled → Bool
is_quote_or_bracket t = is_quote t || is_bracket t

-- the symbols of lexical rules and discards, and the quoted texts and classes of structural rules, in order
abbrev pub lexical_tokens : Statement → List Spelled
lexical_tokens s = lexical_left (left_of s) ++ map (λ r. r.1) (filter (λ r. r.0 || is_quote_or_bracket r.1) (right_of s))
  where
    lexical_left : Option (Bool × Spelled) → List Spelled
    lexical_left (Some l) = if l.0 then l.1 ∷ [] else []
    lexical_left None = []

-- the tokens, each text once
abbrev pub new_tokens : (seen : List (List ℕ)) → List Spelled → List Spelled
new_tokens seen [] = []
new_tokens seen (t ∷ ts) = if is_one_of seen t.content then new_tokens seen ts else t ∷ new_tokens (t.content ∷ seen) ts

abbrev pub placed_tokens : List Statement → List Spelled
placed_tokens d = new_tokens [] (flat_map lexical_tokens d)

-- the character sets of a quoted text or a class, in order
abbrev pub sets_of : Spelled → List Class
sets_of t =
    if is_quote t then map (λ c. class_of_char c (nat_lt 0 (modifier_len t.content))) (quoted t.content)
    else (if is_bracket t then class_list (class_of (chars t.content))
    else [])
  where
    class_list : {E : Type 0} → Result Class E → List Class
    class_list (Ok k) = k ∷ []
    class_list (Err e) = []

abbrev pub sets_l0 : List Statement → List Class
sets_l0 d = flat_map sets_of (placed_tokens d)

abbrev pub texts_l0 : List Statement → List (List ℕ)
texts_l0 d = map (λ t. t.content) (placed_tokens d)

-- the symbols other than sets: those with a place, and lexemes without
abbrev pub named_l0 : List Statement → List (List ℕ)
named_l0 d = texts_l0 d ++ filter (λ t. not (is_one_of (texts_l0 d) t)) (lexemes d)

-- numbers one after another
abbrev pub count_from : ℕ → ℕ → List ℕ
count_from n zero = []
count_from n (suc k) = n ∷ count_from (n + 1) k

-- the rule of each quoted text and class, whose sets are numbered from `next` on
abbrev pub added_rules : (number next : ℕ) → List Spelled → List WrittenRule
added_rules number next [] = []
added_rules number next (t ∷ ts) =
    (if is_quote_or_bracket t
    then Plain (record { lhs = number; rhs = count_from next (length (sets_of t)); level = 0; groups = 1; assoc = Left; rank = pos 0; null_high = false }) ∷ []
    else [])
    ++ added_rules (number + 1) (next + length (sets_of t)) ts

-- the names of the sets are a colon and a number
abbrev pub set_names : ℕ → List (List ℕ)
set_names n = map (λ k. 58 ∷ decimal k) (count_from 0 n)

abbrev pub discards_of : Statement → List (List ℕ)
discards_of (Discard at item adverbs) = item.content ∷ []
discards_of _ = []

abbrev pub discarded : List Statement → List (List ℕ)
discarded d = new_texts [] (flat_map discards_of d)

-- the texts of the starts: the lexemes, and the discards that are none
abbrev pub start_texts : List Statement → List (List ℕ)
start_texts d = lexemes d ++ filter (λ t. not (is_one_of (lexemes d) t)) (discarded d)

abbrev pub grammar_l0 : List Statement → Grammar
grammar_l0 d = record {
  names = named_l0 d ++ set_names (length (sets_l0 d));
  rules = flat_map (rules_of (named_l0 d)) (filter (is_of_level true) d) ++ added_rules 0 (length (named_l0 d)) (placed_tokens d);
  starts = map (place_in (named_l0 d)) (start_texts d);
}

-- TABLES

pub record LexemeRow : Type 0 where
  pub symbol : ℕ
  pub start : ℕ
  pub priority : ℤ
  pub latm : Bool

pub record Built : Type 0 where
  pub g1 : Grammar
  pub l0 : Grammar
  pub sets : List (ℕ × Class)
  pub lexemes : List LexemeRow
  pub discards : List ℕ
  pub meaning : Meaning

abbrev pub lexeme_adverbs : List ℕ → Statement → List Adverb
lexeme_adverbs name (Lexeme at n adverbs) = if bytes_eq name n.content then adverbs else []
lexeme_adverbs name _ = []

abbrev pub lexeme_default_adverbs : Statement → List Adverb
lexeme_default_adverbs (LexemeDefault at adverbs) = adverbs
lexeme_default_adverbs _ = []

-- what `:lexeme` says of a lexeme, else what `lexeme default` says
abbrev pub lexeme_row : List Statement → List ℕ → LexemeRow
lexeme_row d name =
    let own = flat_map (lexeme_adverbs name) d in
    let all = flat_map lexeme_default_adverbs d in
    record {
      symbol = place_in (symbols_g1 d) name;
      start = place_in (start_texts d) name;
      priority = unwrap_or (option_map (λ t. number_of t.content) (value_of (codes "priority") own)) (pos 0);
      latm = says (codes "latm") (codes "1") (own ++ all);
    }

-- the action that adverbs tell
abbrev pub action_in : List Adverb → Option Action
action_in adverbs = told (value_of (codes "action") adverbs)
  where
    told : Option Spelled → Option Action
    told (Some t) = action_of (chars t.content)
    told None = None

abbrev pub meaning_of_quantified : Action → List Adverb → RuleMeaning
meaning_of_quantified default adverbs = record { action = unwrap_or (action_in adverbs) default; shown = []; sequence = true; separated = is_some (value_of (codes "separator") adverbs) }

abbrev pub meaning_of_plain : Action → List Bool → List Adverb → RuleMeaning
meaning_of_plain default shown adverbs = record { action = unwrap_or (action_in adverbs) default; shown = shown; sequence = false; separated = false }

-- the meanings of the structural rules, where the default so far is the action of the last `:default` before
abbrev pub meanings : Action → List Statement → List RuleMeaning
meanings default [] = []
meanings default (Default at adverbs ∷ ss) = meanings (unwrap_or (action_in adverbs) default) ss
meanings default (Empty left lexical adverbs ∷ ss) = (if lexical then [] else meaning_of_plain default [] adverbs ∷ []) ++ meanings default ss
meanings default (Quantified left lexical item plus adverbs ∷ ss) = (if lexical then [] else meaning_of_quantified default adverbs ∷ []) ++ meanings default ss
meanings default (Rules left lexical groups ∷ ss) = (if lexical then [] else map (λ a. meaning_of_plain default (flat_map shown_of_element a.elements) a.adverbs) (alternatives_of groups)) ++ meanings default ss
meanings default (_ ∷ ss) = meanings default ss

abbrev pub numbered_from : {A : Type 0} → ℕ → List A → List (ℕ × A)
numbered_from n [] = []
numbered_from n (x ∷ xs) = (n, x) ∷ numbered_from (n + 1) xs

abbrev pub built_of : List Statement → Built
built_of d = record {
  g1 = grammar_g1 d;
  l0 = grammar_l0 d;
  sets = numbered_from (length (named_l0 d)) (sets_l0 d);
  lexemes = map (lexeme_row d) (lexemes d);
  discards = map (place_in (start_texts d)) (discarded d);
  meaning = record { rules = meanings MakeUndefined d; lexeme = action_in (flat_map lexeme_default_adverbs d) };
}

-- what building a description gives: its first fault, or its grammars and tables
abbrev pub outcome : List BuildFault → Built → Result Built BuildFault
outcome [] built = Ok built
outcome (f ∷ fs) built = Err f

unfoldable pub build : List Statement → Result Built BuildFault
build d = outcome (faults_of d) (built_of d)
