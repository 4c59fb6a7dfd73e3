-- Pieces of the text that is told.
use Rattle.std.specs.Prelude.{ℕ, zero, suc, List, [], ◌∷◌, ◌++◌, codes, replicate, encode_utf8, if◌then◌else◌}
use Rattle.std.specs.Char.{is_control}

-- a character on one line: one that controls a terminal or ends a line as a space
abbrev pub shown_char : ℕ → List ℕ
shown_char c = if is_control c then codes " " else encode_utf8 c

-- as many characters of a text as are told, and two dots where there are more
abbrev pub shown : (most : ℕ) → List ℕ → List ℕ
shown most [] = []
shown zero (c ∷ cs) = codes ".."
shown (suc more) (c ∷ cs) = shown_char c ++ shown more cs

abbrev pub spaces : ℕ → List ℕ
spaces count = replicate count 32
