-- The lines and columns of a text.
use Rattle.std.specs.Prelude.{ℕ, suc, ◌==◌, not, List, length, count_by, take_while, reverse}

-- the line and the column after these characters, from 1; a line ends with LF
abbrev pub line_after : List ℕ → ℕ
line_after cs = suc (count_by (λ c. c == 10) cs)

abbrev pub column_after : List ℕ → ℕ
column_after cs = suc (length (take_while (λ c. not (c == 10)) (reverse cs)))
