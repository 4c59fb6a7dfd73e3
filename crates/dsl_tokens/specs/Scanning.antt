-- The longest token at the front of a text, by its first characters.
use Rattle.std.specs.Prelude.{ℕ, ◌+◌, Bool, not, ◌&&◌, ◌||◌, ◌==◌, nat_eq, nat_lt, if◌then◌else◌, List, take, drop, slice_index, codes, Option, Some, None, option_map}
use Rattle.std.specs.Char.{is_ascii_digit}
use Rattle.std.specs.List.{list_any, prefix_len, starts_with}
use Rattle.unicode.specs.Binary.{is_white_space}
use Rattle.language_model.specs.declared.token.TokenKind.{TokenKind}
use Rattle.language_model.specs.declared.token.TokenKind.TheVariants.{Word, Angle, Quote, Bracket, Pseudo, Reserved, Signed, Mark}
use Rattle.language_model.specs.declared.token.BracketState.TheVariants.{Plain}
use Rattle.language_model.specs.Classes.{is_line_end}
use Rattle.language_model.specs.Tokens.{is_word, closing}

abbrev pub is_angle_character : ℕ → Bool
is_angle_character c = is_word c || is_white_space c

abbrev pub is_quotable : ℕ → Bool
is_quotable c = not ((c == 39) || is_line_end c)

abbrev pub Found : Type 0
Found = Option (TokenKind × ℕ)

-- the length of the modifier at the front
unfoldable pub modifier_at : List ℕ → ℕ
modifier_at text = if starts_with nat_eq text (codes ":ic") then 3 else (if starts_with nat_eq text (codes ":i") then 2 else 0)

unfoldable pub word_at : List ℕ → Found
word_at text = if starts_with nat_eq text (codes "null-ranking") then Some (Mark, 12) else Some (Word, prefix_len is_word text)

unfoldable pub angle_at : List ℕ → Found
angle_at text =
    let len = prefix_len is_angle_character (drop 1 text) in
    if (slice_index text (1 + len) == 62) && list_any is_word (take len (drop 1 text)) then Some (Angle, 2 + len) else None

unfoldable pub quote_at : List ℕ → Found
quote_at text =
    let len = prefix_len is_quotable (drop 1 text) in
    if nat_lt 0 len && (slice_index text (1 + len) == 39) then Some (Quote, 2 + len + modifier_at (drop (2 + len) text)) else None

unfoldable pub bracket_at : List ℕ → Found
bracket_at text = option_map (λ len. (Bracket, 1 + len + modifier_at (drop (1 + len) text))) (closing (drop 1 text) Plain)

unfoldable pub colon_at : List ℕ → Found
colon_at text =
    if slice_index text 1 == 58
    then (if slice_index text 2 == 61 then Some (Mark, 3)
    else (if nat_lt 0 (prefix_len is_word (drop 2 text)) then Some (Reserved, 2 + prefix_len is_word (drop 2 text)) else None))
    else (if nat_lt 0 (prefix_len is_word (drop 1 text)) then Some (Pseudo, 1 + prefix_len is_word (drop 1 text)) else None)

unfoldable pub sign_at : List ℕ → Found
sign_at text =
    if nat_lt 0 (prefix_len is_ascii_digit (drop 1 text)) then Some (Signed, 1 + prefix_len is_ascii_digit (drop 1 text))
    else (if slice_index text 0 == 43 then Some (Mark, 1) else None)

unfoldable pub mark_at : List ℕ → Found
mark_at text =
    if slice_index text 0 == 124 then (if slice_index text 1 == 124 then Some (Mark, 2) else Some (Mark, 1))
    else (if slice_index text 0 == 61 then (if slice_index text 1 == 62 then Some (Mark, 2) else Some (Mark, 1))
    else (if list_any (λ c. c == slice_index text 0) (codes "~()*,;") then Some (Mark, 1)
    else None))

-- the longest token at the front of a text that is not empty
unfoldable pub token_at : List ℕ → Found
token_at text =
    if is_word (slice_index text 0) then word_at text
    else (if slice_index text 0 == 60 then angle_at text
    else (if slice_index text 0 == 39 then quote_at text
    else (if slice_index text 0 == 91 then bracket_at text
    else (if slice_index text 0 == 58 then colon_at text
    else (if (slice_index text 0 == 43) || (slice_index text 0 == 45) then sign_at text
    else mark_at text)))))
