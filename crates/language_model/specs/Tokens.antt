-- The tokens of the grammar language, as the manual of the SLIF DSL of Marpa::R2 has them.
-- A spelling is a text. At each place the longest spelling is the token.
use Rattle.std.specs.Prelude.{◌≡◌, ◌⊎◌, ℕ, ◌+◌, ◌-◌, ◌<◌, ◌≤◌, Bool, true, false, not, ◌&&◌, ◌||◌, ◌==◌, if◌then◌else◌, IsTrue, List, [], ◌∷◌, ◌++◌, length, take, drop, codes, Contains, encode_utf8_all, Option, Some, None, option_map}
use Rattle.std.specs.Char.{is_ascii_digit}
use Rattle.std.specs.List.{list_all, list_any, slice_range}
use Rattle.unicode.specs.Binary.{is_white_space}
use Rattle.language_model.specs.declared.class.Property.TheVariants as property
use Rattle.language_model.specs.declared.token.TokenKind.{TokenKind}
use Rattle.language_model.specs.declared.token.TokenKind.TheVariants.{Word, Angle, Quote, Bracket, Pseudo, Reserved, Signed, Mark}
use Rattle.language_model.specs.declared.token.Token.{Token}
use Rattle.language_model.specs.declared.token.BracketState.{BracketState}
use Rattle.language_model.specs.declared.token.BracketState.TheVariants.{Plain, Escaped, Opened, Colon, Named, Ending}
use Rattle.language_model.specs.Classes.{has_property, is_line_end, is_posix_letter}
use Rattle.language_model.specs.Layout.{after_layout}

-- SPELLINGS

abbrev pub is_word : ℕ → Bool
is_word c = has_property property.Word c

-- one or more characters that pass the test
abbrev pub IsRunOf : (ℕ → Bool) → List ℕ → Type 0
IsRunOf test text = (0 < length text) × IsTrue (list_all test text)

abbrev pub IsModifier : List ℕ → Type 0
IsModifier text = Contains ([] ∷ codes ":i" ∷ codes ":ic" ∷ []) text

-- the state after a character inside a bracket
abbrev pub state_behind_other : BracketState → ℕ → BracketState
state_behind_other Opened c = if c == 58 then Colon else Plain
state_behind_other Colon c = if is_posix_letter c then Named else Plain
state_behind_other Named c = if is_posix_letter c then Named else (if c == 58 then Ending else Plain)
state_behind_other _ c = Plain

abbrev pub state_behind : BracketState → ℕ → BracketState
state_behind Escaped c = Plain
state_behind s c = if c == 92 then Escaped else (if c == 91 then Opened else state_behind_other s c)

-- a `]` closes that is neither escaped nor the end of a POSIX piece
abbrev pub closes : BracketState → ℕ → Bool
closes Escaped c = false
closes Ending c = false
closes _ c = c == 93

-- the length up to the first character that closes, and with it
unfoldable pub closing : List ℕ → BracketState → Option ℕ
closing [] s = None
closing (c ∷ cs) s = if closes s c then Some 1 else option_map (λ len. 1 + len) (closing cs (state_behind s c))

abbrev pub marks : List (List ℕ)
marks = codes "::=" ∷ codes "~" ∷ codes "|" ∷ codes "||" ∷ codes "=>" ∷ codes "=" ∷ codes "(" ∷ codes ")" ∷ codes "*" ∷ codes "+" ∷ codes "," ∷ codes ";" ∷ codes "null-ranking" ∷ []

-- the text is a spelling of a token of the kind
abbrev pub IsSpelling : TokenKind → List ℕ → Type 0
IsSpelling Word text = IsRunOf is_word text
IsSpelling Angle text = (inner : List ℕ) × (text ≡ codes "<" ++ inner ++ codes ">") × IsTrue (list_all (λ c. is_word c || is_white_space c) inner) × IsTrue (list_any is_word inner)
IsSpelling Quote text = (inner : List ℕ) × (modifier : List ℕ) × (text ≡ codes "'" ++ inner ++ codes "'" ++ modifier) × IsRunOf (λ c. not ((c == 39) || is_line_end c)) inner × IsModifier modifier
IsSpelling Bracket text = (inner : List ℕ) × (modifier : List ℕ) × (text ≡ codes "[" ++ inner ++ modifier) × (closing inner Plain ≡ Some (length inner)) × IsModifier modifier
IsSpelling Pseudo text = (name : List ℕ) × (text ≡ codes ":" ++ name) × IsRunOf is_word name
IsSpelling Reserved text = (name : List ℕ) × (text ≡ codes "::" ++ name) × IsRunOf is_word name
IsSpelling Signed text = (sign : ℕ) × (digits : List ℕ) × (text ≡ sign ∷ digits) × ((sign ≡ 43) ⊎ (sign ≡ 45)) × IsRunOf is_ascii_digit digits
IsSpelling Mark text = Contains marks text

-- THE TOKENS OF A TEXT

-- the token is spelled where it stands, and no longer spelling begins there
pub record IsLongest (text : List ℕ) (t : Token) : Type 0 where
  pub some : t.from < t.to
  pub within : t.to ≤ length text
  pub spelled : IsSpelling t.kind (slice_range text t.from t.to)
  pub longest : (kind : TokenKind) (to : ℕ) → t.to < to → to ≤ length text → IsSpelling kind (slice_range text t.from to) → ⊥

-- the tokens follow one another from one place to another, which layout does not begin at
abbrev pub LeadTo : List ℕ → ℕ → List Token → ℕ → Type 0
LeadTo text at [] place = after_layout text at ≡ place
LeadTo text at (t ∷ ts) place = (after_layout text at ≡ t.from) × IsLongest text t × LeadTo text t.to ts place

-- the tokens of the whole text
abbrev pub AreTokens : List ℕ → List Token → Type 0
AreTokens text ts = LeadTo text 0 ts (length text)

-- tokens lead to the place, and no spelling begins there
pub record IsBadPlace (text : List ℕ) (at : ℕ) : Type 0 where
  pub before : List Token
  pub lead : LeadTo text 0 before at
  pub within : at < length text
  pub none : (kind : TokenKind) (to : ℕ) → at < to → to ≤ length text → IsSpelling kind (slice_range text at to) → ⊥

-- WHAT A TOKEN SAYS

-- white space at the ends left out, and each other run of it made one space
abbrev pub spaced : List ℕ → (started pending : Bool) → List ℕ
spaced [] started pending = []
spaced (c ∷ cs) started pending =
    if is_white_space c then spaced cs started true
    else (if started && pending then 32 ∷ c ∷ spaced cs true false
    else c ∷ spaced cs true false)

-- the content of a token of the kind with the spelling
abbrev pub content_of : TokenKind → List ℕ → List ℕ
content_of Angle text = spaced (take (length text - 2) (drop 1 text)) false false
content_of _ text = text

-- a token with its content, in UTF-8, and its place
pub record Spelled : Type 0 where
  pub kind : TokenKind
  pub content : List ℕ
  pub at : ℕ

abbrev pub spelled_at : List ℕ → Token → Spelled
spelled_at text t = record { kind = t.kind; content = encode_utf8_all (content_of t.kind (slice_range text t.from t.to)); at = t.from }
