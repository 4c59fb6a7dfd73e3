-- The text of a value, as bytes: undef, decimal digits, a text in double quotes with escapes, and lists in square
-- brackets with commas and no spaces.
use Rattle.std.specs.Prelude.{ℕ, ◌/◌, ◌%◌, ◌+◌, ◌==◌, ◌&&◌, ◌||◌, Bool, nat_lt, nat_le, if◌then◌else◌, List, [], ◌∷◌, ◌++◌, decimal, codes}
use Rattle.std.specs.Str.{chars}
use Rattle.std.specs.Char.{encode_utf8}
use Rattle.std.specs.List.{flat_map}
use Rattle.grammar_model.specs.Values.{Value, Values, Undefined, Number, Text, ListOf, NoValue, MoreValues}

abbrev pub hex_digit : ℕ → ℕ
hex_digit n = if nat_lt n 10 then 48 + n else 87 + n

abbrev pub is_control : ℕ → Bool
is_control c = nat_lt c 32 || (nat_le 127 c && nat_lt c 160)

-- a character inside a text's quotes
abbrev pub escaped : ℕ → List ℕ
escaped c =
    if (c == 92) || ((c == 34) || ((c == 36) || (c == 64))) then 92 ∷ c ∷ [] else
    (if c == 10 then codes "\\n" else
    (if c == 13 then codes "\\r" else
    (if c == 9 then codes "\\t" else
    (if is_control c then codes "\\x{" ++ hex_digit (c / 16) ∷ hex_digit (c % 16) ∷ 125 ∷ [] else encode_utf8 c))))

abbrev mutual
  pub text_of : Value → List ℕ
  text_of Undefined = codes "undef"
  text_of (Number n) = decimal n
  text_of (Text bytes) = 34 ∷ (flat_map escaped (chars bytes) ++ 34 ∷ [])
  text_of (ListOf items) = 91 ∷ (texts_of items ++ 93 ∷ [])

  pub texts_of : Values → List ℕ
  texts_of NoValue = []
  texts_of (MoreValues first rest) = text_of first ++ texts_after rest

  -- the items after the first, each after a comma
  pub texts_after : Values → List ℕ
  texts_after NoValue = []
  texts_after (MoreValues first rest) = 44 ∷ (text_of first ++ texts_after rest)
