-- The sentences of hints, and their lines.
use Rattle.std.specs.Prelude.{ℕ, Bool, ◌+◌, ◌&&◌, nat_lt, if◌then◌else◌, List, ◌++◌, length, take, decimal, codes}
use Rattle.outside_model.specs.Places.{line_after, column_after}
use Rattle.lint_hints.specs.Hints.{Fault, Unused, Escape, Posix, NoLatm, Operator, Enclosed, Nullable, Hint}

abbrev pub nullable : List ℕ → List ℕ → List ℕ
nullable cause sequence = cause ++ (codes " can span nothing, and with it the item or separator of the sequence " ++ sequence)

abbrev pub posix : List ℕ → List ℕ
posix class = (class ++ codes " is the class of its letters and the colon; write [") ++ (class ++ codes "]")

abbrev pub sentence : Fault → List ℕ
sentence (Unused name) = name ++ codes " is a lexical rule that nothing uses"
sentence (Escape text) = text ++ codes " has no escape: it is a backslash and a letter; a line end is the class [\\n]"
sentence (Posix class) = posix class
sentence NoLatm = codes "no `lexeme default = latm => 1`: a lexeme that cannot stand there may stop the reading by its length"
sentence (Operator left) = left ++ codes " begins and ends this alternative, so that it can be read in two ways; part operators by ||"
sentence (Enclosed left) = left ++ codes " in brackets takes operands of its own group alone; write assoc => group"
sentence (Nullable cause sequence) = nullable cause sequence

-- the place of a character in a text, by its line and its column
abbrev pub is_place : List ℕ → ℕ → Bool
is_place cs at = nat_lt at (length cs + 1) && nat_lt at 4294967295

abbrev pub line_of : List ℕ → ℕ → ℕ
line_of cs at = if is_place cs at then line_after (take at cs) else 1

abbrev pub column_of : List ℕ → ℕ → ℕ
column_of cs at = if is_place cs at then column_after (take at cs) else 1

abbrev pub place_text : List ℕ → ℕ → List ℕ
place_text cs at = codes "line " ++ (decimal (line_of cs at) ++ (codes " column " ++ decimal (column_of cs at)))

abbrev pub line_text : List ℕ → Hint → List ℕ
line_text cs hint = place_text cs hint.at ++ (codes ": " ++ (sentence hint.fault ++ codes "\n"))
