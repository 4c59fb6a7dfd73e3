-- The bytes of an escape inside a text's quotes.
use Rattle.std.specs.Prelude.{ℕ, ◌/◌, ◌%◌, Option, Some, None, List, [], ◌∷◌, ◌++◌, codes}
use Rattle.std.specs.Char.{encode_utf8}
use Rattle.value_text.specs.declared.text.Escape.{Escape}
use Rattle.value_text.specs.declared.text.Escape.TheVariants.{Mark, Code}
use Rattle.grammar_model.specs.Text.{hex_digit}

abbrev pub bytes_of : Escape → List ℕ
bytes_of (Mark byte) = 92 ∷ byte ∷ []
bytes_of (Code code) = codes "\\x{" ++ hex_digit (code / 16) ∷ hex_digit (code % 16) ∷ 125 ∷ []

-- a character that is escaped so, or stands as it is
abbrev pub escaped_by : ℕ → Option Escape → List ℕ
escaped_by c None = encode_utf8 c
escaped_by c (Some escape) = bytes_of escape
