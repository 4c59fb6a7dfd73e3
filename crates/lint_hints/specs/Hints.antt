-- The hints about a grammar, by its statements: each with the place of a character, counted from 0, and what is likely to be a mistake there.
use Rattle.std.specs.Prelude.{ℕ, ◌-◌, ◌&&◌, ◌||◌, not, nat_lt, nat_eq, Bool, true, false, List, [], ◌∷◌, ◌++◌, length, slice_get, codes, bytes_eq, Option, Some, None}
use Rattle.std.specs.List.{flat_map, list_any, starts_with, ends_with}
use Rattle.std.specs.Option.{option_and_then, option_map_or}
use Rattle.language_model.specs.declared.token.TokenKind.{TokenKind}
use Rattle.language_model.specs.declared.token.TokenKind.TheVariants.{Quote, Bracket}
use Rattle.language_model.specs.Tokens.{Spelled}
use Rattle.language_model.specs.Description.{Element, Adverb, Comma, Pair, Alternative, Statement, LexemeDefault, Discard, Quantified, Rules, is_name}
use Rattle.language_model.specs.Building.{parts_of_element, left_of}
use Rattle.lint_hints.specs.declared.hint.Fault.{Fault as HeldFault}
use Rattle.lint_hints.specs.declared.hint.Fault.TheVariants as held
use Rattle.lint_hints.specs.declared.hint.Hint.{Hint as HeldHint}

pub data Fault : Type 0 where
  Unused : (name : List ℕ) → Fault
  Escape : (text : List ℕ) → Fault
  Posix : (class : List ℕ) → Fault
  NoLatm : Fault
  Operator : (left : List ℕ) → Fault
  Enclosed : (left : List ℕ) → Fault
  Nullable : (cause sequence : List ℕ) → Fault

pub record Hint : Type 0 where
  pub at : ℕ
  pub fault : Fault

abbrev pub fault_of : HeldFault → Fault
fault_of (held.Unused name) = Unused name.now
fault_of (held.Escape text) = Escape text.now
fault_of (held.Posix class) = Posix class.now
fault_of held.NoLatm = NoLatm
fault_of (held.Operator left) = Operator left.now
fault_of (held.Bracket left) = Enclosed left.now
fault_of (held.Nullable cause sequence) = Nullable cause.now sequence.now

abbrev pub hint_of : HeldHint → Hint
hint_of h = record { at = h.at; fault = fault_of h.fault }

abbrev pub hint_if : Bool → ℕ → Fault → List Hint
hint_if true at fault = record { at = at; fault = fault } ∷ []
hint_if false at fault = []

-- NO LATM: there are lexical rules, and no `lexeme default` names `latm`. The place is that of the first rule.

abbrev pub is_lexical_rule : Statement → Bool
is_lexical_rule s = option_map_or (λ l. l.0) (left_of s) false

abbrev pub is_latm : Adverb → Bool
is_latm (Comma at) = false
is_latm (Pair name value) = bytes_eq name.content (codes "latm")

abbrev pub says_latm : Statement → Bool
says_latm (LexemeDefault at adverbs) = list_any is_latm adverbs
says_latm _ = false

abbrev pub first_place : List Statement → ℕ
first_place [] = 0
first_place (s ∷ d) = option_map_or (λ l. l.1.at) (left_of s) (first_place d)

abbrev pub latm_hints : List Statement → List Hint
latm_hints d = hint_if (list_any is_lexical_rule d && not (list_any says_latm d)) (first_place d) NoLatm

-- SPELLINGS: in quotes a backslash before n, r or t, and a POSIX piece that is a class of its own

-- the bytes have the piece
abbrev pub has_piece : (piece : List ℕ) → List ℕ → Bool
has_piece piece [] = starts_with nat_eq [] piece
has_piece piece (b ∷ bytes) = starts_with nat_eq (b ∷ bytes) piece || has_piece piece bytes

abbrev pub has_escape : List ℕ → Bool
has_escape text = has_piece (codes "\\n") text || (has_piece (codes "\\r") text || has_piece (codes "\\t") text)

abbrev pub is_posix : List ℕ → Bool
is_posix text = nat_lt 4 (length text) && (starts_with nat_eq text (codes "[:") && ends_with nat_eq text (codes ":]"))

abbrev pub spelling_of_kind : TokenKind → Spelled → List Hint
spelling_of_kind Quote t = hint_if (has_escape t.content) t.at (Escape t.content)
spelling_of_kind Bracket t = hint_if (is_posix t.content) t.at (Posix t.content)
spelling_of_kind _ t = []

abbrev pub spelling : Spelled → List Hint
spelling t = spelling_of_kind t.kind t

abbrev pub element_spellings : Element → List Hint
element_spellings e = flat_map spelling (parts_of_element e)

abbrev pub alternative_spellings : Alternative → List Hint
alternative_spellings a = flat_map element_spellings a.elements

abbrev pub group_spellings : List Alternative → List Hint
group_spellings g = flat_map alternative_spellings g

abbrev pub spellings : Statement → List Hint
spellings (Discard at item adverbs) = spelling item
spellings (Quantified left lexical item plus adverbs) = spelling item
spellings (Rules left lexical groups) = flat_map group_spellings groups
spellings _ = []

-- OPERATORS: without groups, an alternative of two elements or more that begins and ends with its left side

abbrev pub is_named : List ℕ → Spelled → Bool
is_named name t = is_name t && bytes_eq t.content name

abbrev pub first_part : Element → Option Spelled
first_part e = slice_get (parts_of_element e) 0

abbrev pub last_part : Element → Option Spelled
last_part e = slice_get (parts_of_element e) (length (parts_of_element e) - 1)

abbrev pub first_of : Alternative → Option Spelled
first_of a = option_and_then first_part (slice_get a.elements 0)

abbrev pub last_of : Alternative → Option Spelled
last_of a = option_and_then last_part (slice_get a.elements (length a.elements - 1))

abbrev pub is_left : List ℕ → Option Spelled → Bool
is_left left None = false
is_left left (Some t) = is_named left t

abbrev pub place_of : Option Spelled → ℕ
place_of None = 0
place_of (Some t) = t.at

abbrev pub is_operator : List ℕ → Alternative → Bool
is_operator left a = nat_lt 1 (length a.elements) && (is_left left (first_of a) && is_left left (last_of a))

abbrev pub operator : List ℕ → Alternative → List Hint
operator left a = hint_if (is_operator left a) (place_of (first_of a)) (Operator left)

-- BRACKETS: with groups, an alternative that has its left side, at neither end, and does not say `assoc => group`

abbrev pub is_of_any_group : Adverb → Bool
is_of_any_group (Comma at) = false
is_of_any_group (Pair name value) = bytes_eq name.content (codes "assoc") && bytes_eq value.content (codes "group")

abbrev pub has_name : List ℕ → Element → Bool
has_name left e = list_any (is_named left) (parts_of_element e)

abbrev pub is_enclosed : List ℕ → Alternative → Bool
is_enclosed left a = not (is_left left (first_of a)) && (not (is_left left (last_of a)) && list_any (has_name left) a.elements)

abbrev pub bracket : List ℕ → Alternative → List Hint
bracket left a = hint_if (is_enclosed left a && not (list_any is_of_any_group a.adverbs)) (place_of (first_of a)) (Enclosed left)

abbrev pub group_brackets : List ℕ → List Alternative → List Hint
group_brackets left g = flat_map (bracket left) g

abbrev pub groups_hints : List ℕ → List (List Alternative) → List Hint
groups_hints left [] = []
groups_hints left (group ∷ []) = flat_map (operator left) group
groups_hints left (first ∷ second ∷ rest) = flat_map (group_brackets left) (first ∷ second ∷ rest)

abbrev pub level_hints : (lexical : Bool) → List ℕ → List (List Alternative) → List Hint
level_hints true left groups = []
level_hints false left groups = groups_hints left groups

abbrev pub group_hints : Statement → List Hint
group_hints (Rules left lexical groups) = level_hints lexical left.content groups
group_hints _ = []

abbrev pub statement_hints : Statement → List Hint
statement_hints s = spellings s ++ group_hints s
