-- The statements of the grammar language, as the manual of the SLIF DSL of Marpa::R2 has them, and
-- the description that a list of tokens has: its statements, each printed, are the pieces of the tokens.
use Rattle.std.specs.Prelude.{◌≡◌, ℕ, Bool, true, false, ◌&&◌, ◌||◌, if◌then◌else◌, IsTrue, List, [], ◌∷◌, ◌++◌, map, filter, flat_map, bytes_eq, codes, Option, Some, None, IfSome}
use Rattle.std.specs.List.{list_all}
use Rattle.language_model.specs.declared.token.TokenKind.{TokenKind}
use Rattle.language_model.specs.declared.token.TokenKind.TheVariants.{Word, Angle, Quote, Bracket, Pseudo, Mark}
use Rattle.language_model.specs.Tokens.{Spelled}

-- STATEMENTS

-- a part of a right side, or parts in round brackets, which are not shown
pub data Element : Type 0 where
  Bare : (part : Spelled) → Element
  Hidden : (parts : List Spelled) → Element

pub data Adverb : Type 0 where
  Comma : (at : ℕ) → Adverb
  Pair : (name value : Spelled) → Adverb

pub record Alternative : Type 0 where
  pub elements : List Element
  pub adverbs : List Adverb

-- `at` is the place of the statement's first token, where it is no kept token. A lexical rule has `~`.
pub data Statement : Type 0 where
  Start : (at : ℕ) (name : Spelled) → Statement
  Default : (at : ℕ) (adverbs : List Adverb) → Statement
  LexemeDefault : (at : ℕ) (adverbs : List Adverb) → Statement
  Lexeme : (at : ℕ) (name : Spelled) (adverbs : List Adverb) → Statement
  Discard : (at : ℕ) (item : Spelled) (adverbs : List Adverb) → Statement
  Empty : (left : Spelled) (lexical : Bool) (adverbs : List Adverb) → Statement
  Quantified : (left : Spelled) (lexical : Bool) (item : Spelled) (plus : Bool) (adverbs : List Adverb) → Statement
  Rules : (left : Spelled) (lexical : Bool) (groups : List (List Alternative)) → Statement

-- the kinds and numbers that a statement asks for
abbrev pub is_name : Spelled → Bool
is_name t = is_name_kind t.kind
  where
    is_name_kind : TokenKind → Bool
    is_name_kind Word = true
    is_name_kind Angle = true
    is_name_kind _ = false

abbrev pub is_kind_of_part : TokenKind → Bool
is_kind_of_part Word = true
is_kind_of_part Angle = true
is_kind_of_part Quote = true
is_kind_of_part Bracket = true
is_kind_of_part _ = false

abbrev pub is_kind_of_single : TokenKind → Bool
is_kind_of_single Word = true
is_kind_of_single Angle = true
is_kind_of_single Bracket = true
is_kind_of_single _ = false

abbrev pub is_kind_of_value : TokenKind → Bool
is_kind_of_value Pseudo = false
is_kind_of_value Mark = false
is_kind_of_value _ = true

abbrev pub is_adverb_name : Spelled → Bool
is_adverb_name t = is_of_kind t.kind
  where
    is_of_kind : TokenKind → Bool
    is_of_kind Word = true
    is_of_kind Mark = bytes_eq t.content (codes "null-ranking")
    is_of_kind _ = false

abbrev pub is_some : {A : Type 0} → List A → Bool
is_some [] = false
is_some (x ∷ xs) = true

abbrev pub is_element : Element → Bool
is_element (Bare part) = is_kind_of_part part.kind
is_element (Hidden parts) = is_some parts && list_all (λ t. is_kind_of_part t.kind) parts

abbrev pub is_adverb : Adverb → Bool
is_adverb (Comma at) = true
is_adverb (Pair name value) = is_adverb_name name && is_kind_of_value value.kind

abbrev pub is_alternative : Alternative → Bool
is_alternative a = is_some a.elements && list_all is_element a.elements && list_all is_adverb a.adverbs

abbrev pub is_group : List Alternative → Bool
is_group alternatives = is_some alternatives && list_all is_alternative alternatives

abbrev pub is_one : {A : Type 0} → List A → Bool
is_one [] = false
is_one (x ∷ []) = true
is_one (x ∷ y ∷ xs) = false

abbrev pub is_statement : Statement → Bool
is_statement (Start at name) = is_name name
is_statement (Default at adverbs) = list_all is_adverb adverbs
is_statement (LexemeDefault at adverbs) = list_all is_adverb adverbs
is_statement (Lexeme at name adverbs) = is_name name && list_all is_adverb adverbs
is_statement (Discard at item adverbs) = is_kind_of_single item.kind && list_all is_adverb adverbs
is_statement (Empty left lexical adverbs) = is_name left && list_all is_adverb adverbs
is_statement (Quantified left lexical item plus adverbs) = is_name left && is_kind_of_single item.kind && list_all is_adverb adverbs
is_statement (Rules left lexical groups) = is_name left && list_all is_group groups && (if lexical then is_one groups else is_some groups)

-- PRINTING

-- a token that is printed, with its place where the statement keeps it
pub record Printed : Type 0 where
  pub kind : TokenKind
  pub content : List ℕ
  pub at : Option ℕ

abbrev pub kept : Spelled → Printed
kept t = record { kind = t.kind; content = t.content; at = Some t.at }

abbrev pub mark : List ℕ → Printed
mark content = record { kind = Mark; content = content; at = None }

abbrev pub word : List ℕ → Printed
word content = record { kind = Word; content = content; at = None }

abbrev pub first : TokenKind → List ℕ → ℕ → Printed
first kind content at = record { kind = kind; content = content; at = Some at }

abbrev pub operator : Bool → Printed
operator lexical = mark (if lexical then codes "~" else codes "::=")

-- the lists one after the other, with the mark between them
abbrev pub joined : Printed → List (List Printed) → List Printed
joined m [] = []
joined m (ps ∷ []) = ps
joined m (ps ∷ qs ∷ rest) = ps ++ m ∷ joined m (qs ∷ rest)

abbrev pub tokens_of_element : Element → List Printed
tokens_of_element (Bare part) = kept part ∷ []
tokens_of_element (Hidden parts) = mark (codes "(") ∷ map kept parts ++ mark (codes ")") ∷ []

abbrev pub tokens_of_adverb : Adverb → List Printed
tokens_of_adverb (Comma at) = first Mark (codes ",") at ∷ []
tokens_of_adverb (Pair name value) = kept name ∷ mark (codes "=>") ∷ kept value ∷ []

abbrev pub tokens_of_adverbs : List Adverb → List Printed
tokens_of_adverbs adverbs = flat_map tokens_of_adverb adverbs

abbrev pub tokens_of_alternative : Alternative → List Printed
tokens_of_alternative a = flat_map tokens_of_element a.elements ++ tokens_of_adverbs a.adverbs

abbrev pub tokens_of_groups : List (List Alternative) → List Printed
tokens_of_groups groups = joined (mark (codes "||")) (map (λ g. joined (mark (codes "|")) (map tokens_of_alternative g)) groups)

unfoldable pub tokens_of : Statement → List Printed
tokens_of (Start at name) = first Pseudo (codes ":start") at ∷ mark (codes "::=") ∷ kept name ∷ []
tokens_of (Default at adverbs) = first Pseudo (codes ":default") at ∷ mark (codes "::=") ∷ tokens_of_adverbs adverbs
tokens_of (LexemeDefault at adverbs) = first Word (codes "lexeme") at ∷ word (codes "default") ∷ mark (codes "=") ∷ tokens_of_adverbs adverbs
tokens_of (Lexeme at name adverbs) = first Pseudo (codes ":lexeme") at ∷ mark (codes "~") ∷ kept name ∷ tokens_of_adverbs adverbs
tokens_of (Discard at item adverbs) = first Pseudo (codes ":discard") at ∷ mark (codes "~") ∷ kept item ∷ tokens_of_adverbs adverbs
tokens_of (Empty left lexical adverbs) = kept left ∷ operator lexical ∷ tokens_of_adverbs adverbs
tokens_of (Quantified left lexical item plus adverbs) = kept left ∷ operator lexical ∷ kept item ∷ mark (if plus then codes "+" else codes "*") ∷ tokens_of_adverbs adverbs
tokens_of (Rules left lexical groups) = kept left ∷ operator lexical ∷ tokens_of_groups groups

-- PIECES

abbrev pub is_mark : List ℕ → Spelled → Bool
is_mark content t = is_kind_mark t.kind && bytes_eq t.content content
  where
    is_kind_mark : TokenKind → Bool
    is_kind_mark Mark = true
    is_kind_mark _ = false

abbrev pub is_word_of : List ℕ → Spelled → Bool
is_word_of content t = is_kind_word t.kind && bytes_eq t.content content
  where
    is_kind_word : TokenKind → Bool
    is_kind_word Word = true
    is_kind_word _ = false

abbrev pub is_pseudo : Spelled → Bool
is_pseudo t = is_kind_pseudo t.kind
  where
    is_kind_pseudo : TokenKind → Bool
    is_kind_pseudo Pseudo = true
    is_kind_pseudo _ = false

-- a piece begins at the first of these tokens
abbrev pub begins_piece : List Spelled → Bool
begins_piece [] = false
begins_piece (t ∷ []) = is_pseudo t
begins_piece (t ∷ u ∷ []) = is_pseudo t || (is_name t && (is_mark (codes "::=") u || is_mark (codes "~") u))
begins_piece (t ∷ u ∷ v ∷ ts) = is_pseudo t || (is_name t && (is_mark (codes "::=") u || is_mark (codes "~") u)) || (is_word_of (codes "lexeme") t && is_word_of (codes "default") u && is_mark (codes "=") v)

abbrev pub onto_first : Spelled → List (List Spelled) → List (List Spelled)
onto_first t [] = (t ∷ []) ∷ []
onto_first t (p ∷ ps) = (t ∷ p) ∷ ps

-- the tokens cut before each that begins a piece, and at each semicolon
unfoldable pub cut : List Spelled → List (List Spelled)
cut [] = [] ∷ []
cut (t ∷ ts) =
    if is_mark (codes ";") t then [] ∷ cut ts
    else (if begins_piece (t ∷ ts) then [] ∷ onto_first t (cut ts)
    else onto_first t (cut ts))

-- the pieces that are not empty
abbrev pub pieces_of : List Spelled → List (List Spelled)
pieces_of tokens = filter is_some (cut tokens)

-- THE DESCRIPTION

-- the lists are as long as each other, and the relation holds place by place
abbrev pub Together : {A B : Type 0} → (A → B → Type 0) → List A → List B → Type 0
Together R [] [] = Unit {0}
Together R (x ∷ xs) (y ∷ ys) = R x y × Together R xs ys
Together R _ _ = ⊥

abbrev pub PrintedAs : Printed → Spelled → Type 0
PrintedAs p t = (p.kind ≡ t.kind) × (p.content ≡ t.content) × IfSome p.at (λ at. at ≡ t.at)

-- the statement, printed, is the piece, and each place that it keeps is that of its token
abbrev pub Spells : Statement → List Spelled → Type 0
Spells s piece = IsTrue (is_statement s) × Together PrintedAs (tokens_of s) piece

-- the tokens have this description
abbrev pub Describes : List Statement → List Spelled → Type 0
Describes statements tokens = Together Spells statements (pieces_of tokens)

-- the piece that begins at the place is no statement, and those before it are
pub record IsBadStatement (tokens : List Spelled) (at : ℕ) : Type 0 where
  pub good : List (List Spelled)
  pub bad : Spelled
  pub behind : List Spelled
  pub rest : List (List Spelled)
  pub pieces : pieces_of tokens ≡ good ++ (bad ∷ behind) ∷ rest
  pub statements : List Statement
  pub described : Together Spells statements good
  pub none : (s : Statement) → Spells s (bad ∷ behind) → ⊥
  pub place : bad.at ≡ at
