-- The line that is told of a glade: its slot, its span, and its first two shapes, each by its rule and the places where its children begin.
-- Source: the texts are our own.
use Rattle.std.specs.Prelude.{ℕ, zero, suc, List, [], ◌∷◌, ◌++◌, codes, decimal}
use Rattle.std.specs.List.{join_by}
use Rattle.grammar_model.specs.Grammar.{Grammar}
use Rattle.grammar_model.specs.Values.{name_of}
use Rattle.glade_model.specs.Glades.{Shape, Glade}

abbrev pub shape_text : Shape → List ℕ
shape_text s = decimal s.rule ++ (codes " at " ++ join_by decimal (codes ",") s.starts)

abbrev pub shapes_text : Glade → List ℕ
shapes_text glade = shape_text glade.first ++ (codes "; " ++ shape_text glade.second)

-- the loosest level is not told
abbrev pub level_text : ℕ → List ℕ
level_text zero = []
level_text (suc k) = codes "/" ++ decimal (suc k)

abbrev pub span_text : (from to : ℕ) → List ℕ
span_text from to = codes " " ++ (decimal from ++ (codes "-" ++ decimal to))

abbrev pub place_text : Grammar → Glade → List ℕ
place_text g glade = name_of g glade.slot.symbol ++ (level_text glade.slot.level ++ span_text glade.from glade.to)

abbrev pub glade_line : Grammar → Glade → List ℕ
glade_line g glade = place_text g glade ++ (codes ": " ++ (shapes_text glade ++ 10 ∷ []))
