-- The character classes of the grammar language, as the manual of the SLIF DSL of Marpa::R2 and
-- Unicode Technical Standard 18 have them. A text is the list of its characters.
use Rattle.std.specs.Prelude.{◌≡◌, ℕ, zero, suc, ◌+◌, ◌*◌, ◌-◌, Bool, false, not, ◌&&◌, ◌||◌, ◌==◌, nat_eq, nat_lt, nat_le, IsTrue, MatchBool, if◌then◌else◌, List, [], ◌∷◌, length, take, drop, slice_index, fold, bytes_eq, codes, Option, Some, None, Result, Ok, Err}
use Rattle.std.specs.Char.{digit_value, is_ascii_alphabetic, is_ascii_punctuation, is_ascii_hexdigit}
use lib.Utf8.{scalar}
use Rattle.std.specs.List.{list_any, prefix_len, starts_with, ends_with}
use Rattle.unicode.specs.Perl.{is_digit_char, is_space_char, is_word_char}
use Rattle.unicode.specs.Binary.{is_alphabetic}
use Rattle.unicode.specs.GeneralCategory.{general_category, general_category_eq}
use Rattle.unicode.specs.CaseFolding.{simple_fold}
use Rattle.ucd_category.specs.declared.GeneralCategory.TheVariants.{UppercaseLetter, LowercaseLetter}
use Rattle.language_model.specs.declared.class.Property.{Property}
use Rattle.language_model.specs.declared.class.Property.TheVariants.{Digit, Space, Word, Alpha, Alnum, Upper, Lower, HexDigit}
use Rattle.language_model.specs.declared.class.ClassItem.{ClassItem}
use Rattle.language_model.specs.declared.class.ClassItem.TheVariants.{Span, Having, Lacking}
use Rattle.language_model.specs.declared.class.ClassFault.{ClassFault}
use Rattle.language_model.specs.declared.class.ClassFault.TheVariants.{BadEscape, BadRange, BadPosix}
use Rattle.language_model.specs.declared.class.Piece.{Piece}
use Rattle.language_model.specs.declared.class.Piece.TheVariants.{One, Hyphen, Set, Bad}

-- MEMBERS

-- the code point has the property. `Digit`, `Space` and `Word` are `\d`, `\s` and `\w`.
abbrev pub has_property : Property → ℕ → Bool
has_property Digit c = is_digit_char c
has_property Space c = is_space_char c
has_property Word c = is_word_char c
has_property Alpha c = is_alphabetic c
has_property Alnum c = is_alphabetic c || is_digit_char c
has_property Upper c = general_category_eq (general_category c) UppercaseLetter
has_property Lower c = general_category_eq (general_category c) LowercaseLetter
has_property HexDigit c = is_ascii_hexdigit c

abbrev pub item_has : ClassItem → ℕ → Bool
item_has (Span low high) c = nat_le low c && nat_le c high
item_has (Having p) c = has_property p c
item_has (Lacking p) c = not (has_property p c)

abbrev pub some_item_has : List ClassItem → ℕ → Bool
some_item_has items c = list_any (λ i. item_has i c) items

pub record Class : Type 0 where
  pub negated : Bool
  pub caseless : Bool
  pub items : List ClassItem

-- an item has the character, or where case is ignored one with the same simple folding
abbrev pub Matches : Class → ℕ → Type 0
Matches k c = MatchBool k.caseless ((m : ℕ) × (simple_fold m ≡ simple_fold c) × IsTrue (some_item_has k.items m)) (IsTrue (some_item_has k.items c))

-- the class has the character as a member
abbrev pub HasMember : Class → ℕ → Type 0
HasMember k c = MatchBool k.negated (Matches k c → ⊥) (Matches k c)

-- the class of one character
abbrev pub class_of_char : ℕ → Bool → Class
class_of_char c caseless = record { negated = false; caseless = caseless; items = Span c c ∷ [] }

-- SPELLING

-- LF, VT, FF, CR, and the line ends past ASCII
abbrev pub is_line_end : ℕ → Bool
is_line_end c = (nat_le 10 c && nat_le c 13) || (c == 0x85) || (c == 0x2028) || (c == 0x2029)

-- a POSIX piece is `[:`, one or more of these, and `:]`
abbrev pub is_posix_letter : ℕ → Bool
is_posix_letter c = is_ascii_alphabetic c || (c == 94)

-- the number of letters of the POSIX piece that the text begins with, or 0
unfoldable pub posix_len : List ℕ → ℕ
posix_len text =
    let len = prefix_len is_posix_letter (drop 2 text) in
    if starts_with nat_eq text (codes "[:") && starts_with nat_eq (drop (2 + len) text) (codes ":]") then len else 0

-- the set that has this name
abbrev pub posix_property : List ℕ → Option Property
posix_property name =
    if bytes_eq name (codes "digit") then Some Digit
    else (if bytes_eq name (codes "space") then Some Space
    else (if bytes_eq name (codes "word") then Some Word
    else (if bytes_eq name (codes "alpha") then Some Alpha
    else (if bytes_eq name (codes "alnum") then Some Alnum
    else (if bytes_eq name (codes "upper") then Some Upper
    else (if bytes_eq name (codes "lower") then Some Lower
    else (if bytes_eq name (codes "xdigit") then Some HexDigit
    else None)))))))

-- the number that hexadecimal digits spell
abbrev pub hex_number : List ℕ → ℕ
hex_number digits = fold (λ n d. n * 16 + digit_value d) 0 digits

abbrev pub one_or_bad : ℕ → ℕ → Piece × ℕ
one_or_bad c len = if scalar c then (One c, len) else (Bad BadEscape, len)

-- after `\x`: one to six digits in braces, or two digits
unfoldable pub hex_piece : List ℕ → Piece × ℕ
hex_piece text =
    let len = prefix_len is_ascii_hexdigit (drop 3 text) in
    if slice_index text 2 == 123
    then (if nat_lt 0 len && nat_le len 6 && (slice_index text (3 + len) == 125)
    then one_or_bad (hex_number (take len (drop 3 text))) (4 + len)
    else (Bad BadEscape, 1))
    else (if is_ascii_hexdigit (slice_index text 2) && is_ascii_hexdigit (slice_index text 3)
    then (One (16 * digit_value (slice_index text 2) + digit_value (slice_index text 3)), 4)
    else (Bad BadEscape, 1))

-- the letter after a backslash, other than x: n, r, t, d, s, w, D, S, W
unfoldable pub escape_piece : ℕ → Piece
escape_piece c =
    if c == 110 then One 10
    else (if c == 114 then One 13
    else (if c == 116 then One 9
    else (if c == 100 then Set (Having Digit)
    else (if c == 115 then Set (Having Space)
    else (if c == 119 then Set (Having Word)
    else (if c == 68 then Set (Lacking Digit)
    else (if c == 83 then Set (Lacking Space)
    else (if c == 87 then Set (Lacking Word)
    else (if is_ascii_punctuation c then One c
    else Bad BadEscape)))))))))

-- a POSIX piece with this name
abbrev pub posix_piece : List ℕ → Piece
posix_piece name = posix_set (posix_property name)
  where
    posix_set : Option Property → Piece
    posix_set (Some p) = Set (Having p)
    posix_set None = Bad BadPosix

-- what a text that is not empty begins with, and the number of its characters
unfoldable pub piece_at : List ℕ → Piece × ℕ
piece_at text =
    if nat_lt 0 (posix_len text) then (posix_piece (take (posix_len text) (drop 2 text)), 4 + posix_len text)
    else (if slice_index text 0 == 92 then escape_at text
    else (if is_line_end (slice_index text 0) then (Bad BadEscape, 1)
    else (if slice_index text 0 == 45 then (Hyphen, 1)
    else (One (slice_index text 0), 1))))
  where
    escape_at : List ℕ → Piece × ℕ
    escape_at text = if slice_index text 1 == 120 then hex_piece text else (escape_piece (slice_index text 1), 2)

-- the pieces of a text, of which the first n characters belong to a piece before
unfoldable pub pieces_behind : List ℕ → ℕ → List Piece
pieces_behind [] n = []
pieces_behind (c ∷ cs) (suc n) = pieces_behind cs n
pieces_behind (c ∷ cs) zero = (piece_at (c ∷ cs)).0 ∷ pieces_behind cs ((piece_at (c ∷ cs)).1 - 1)

abbrev pub pieces_of : List ℕ → List Piece
pieces_of text = pieces_behind text 0

-- a piece by itself
abbrev pub item_of : Piece → Result ClassItem ClassFault
item_of (One c) = Ok (Span c c)
item_of Hyphen = Ok (Span 45 45)
item_of (Set i) = Ok i
item_of (Bad f) = Err f

-- the range from a character to a piece
abbrev pub range_to : ℕ → Piece → Result ClassItem ClassFault
range_to low (One c) = if nat_le low c then Ok (Span low c) else Err BadRange
range_to low Hyphen = if nat_le low 45 then Ok (Span low 45) else Err BadRange
range_to low (Set i) = Err BadRange
range_to low (Bad f) = Err f

-- the character where two pieces begin a range
abbrev pub range_start : Piece → Piece → Option ℕ
range_start (One c) Hyphen = Some c
range_start Hyphen Hyphen = Some 45
range_start p q = None

-- an item, and those after it; the first fault decides
abbrev pub item_then : Result ClassItem ClassFault → Result (List ClassItem) ClassFault → Result (List ClassItem) ClassFault
item_then (Err f) rest = Err f
item_then (Ok i) (Ok is) = Ok (i ∷ is)
item_then (Ok i) (Err f) = Err f

-- the items that pieces make. A hyphen with no piece after it is itself.
unfoldable pub items_of : List Piece → Result (List ClassItem) ClassFault
items_of [] = Ok []
items_of (p ∷ []) = item_then (item_of p) (Ok [])
items_of (p ∷ q ∷ []) = item_then (item_of p) (item_then (item_of q) (Ok []))
items_of (p ∷ q ∷ r ∷ ps) = elim (range_start p q) [ Some low ↦ item_then (range_to low r) (items_of ps) | None ↦ item_then (item_of p) (items_of (q ∷ r ∷ ps)) ]

-- `:i` or `:ic` after a class or a quoted text, which ignores case
abbrev pub modifier_len : List ℕ → ℕ
modifier_len text = if ends_with nat_eq text (codes ":ic") then 3 else (if ends_with nat_eq text (codes ":i") then 2 else 0)

-- what stands between the brackets
abbrev pub between_brackets : List ℕ → List ℕ
between_brackets text = drop 1 (take (length text - modifier_len text - 1) text)

abbrev pub without_caret : List ℕ → List ℕ
without_caret inner = if slice_index inner 0 == 94 then drop 1 inner else inner

abbrev pub class_with : Bool → Bool → Result (List ClassItem) ClassFault → Result Class ClassFault
class_with negated caseless (Ok items) = Ok (record { negated = negated; caseless = caseless; items = items })
class_with negated caseless (Err f) = Err f

-- the class that a bracket with its modifier spells, or its first fault from the left
unfoldable pub class_of : List ℕ → Result Class ClassFault
class_of text =
    class_with (slice_index (between_brackets text) 0 == 94) (nat_lt 0 (modifier_len text))
    (items_of (pieces_of (without_caret (between_brackets text))))
