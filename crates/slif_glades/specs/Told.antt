-- What is told of a glade: where it is, its symbol and its text; its two rules, one below the other, each with the texts of its parts; and
-- how many more there are of these two rules. Source: the texts are our own.
use Rattle.std.specs.Prelude.{ℕ, zero, suc, ◌-◌, max, List, [], ◌∷◌, ◌++◌, Option, None, Some, length, nat_lt, slice_range, codes, decimal, if◌then◌else◌}
use Rattle.grammar_model.specs.Grammar.{Grammar, rule_at}
use Rattle.grammar_model.specs.Values.{name_of}
use Rattle.glade_model.specs.Glades.{Glade}
use Rattle.run_model.specs.Texts.{place_text}
use Rattle.run_model.specs.Glades.{level_text}
use Rattle.slif_parser.specs.Rules.{rule_text}
use Rattle.slif_parser.specs.Views.{Read}
use Rattle.slif_parser.specs.Readings.{start_at, end_at}
use Rattle.slif_glades.specs.declared.pieces.TheConstants.{MOST_CHARACTERS}
use Rattle.slif_glades.specs.Pieces.{shown, spaces}

-- the tokens from one place to another, of which there may be none
abbrev pub tokens_text : Read → (from to : ℕ) → List ℕ
tokens_text r from to = if nat_lt from to then shown MOST_CHARACTERS (slice_range r.characters (start_at r.spans from) (end_at r.spans to)) else codes "()"

-- the parts that begin at these places, of which the last ends at `to`
abbrev pub parts_text : Read → (starts : List ℕ) (to : ℕ) → List ℕ
parts_text r [] to = []
parts_text r (from ∷ []) to = tokens_text r from to
parts_text r (from ∷ next ∷ more) to = tokens_text r from next ++ (codes " | " ++ parts_text r (next ∷ more) to)

-- the rule of a number as it is written, if there is one
abbrev pub written_rule : Grammar → ℕ → List ℕ
written_rule g rule = if nat_lt rule (length g.rules) then rule_text g (rule_at g rule) else []

-- a rule in so many columns, and the parts
abbrev pub shape_line : Read → (rule : List ℕ) (width : ℕ) (starts : List ℕ) (to : ℕ) → List ℕ
shape_line r rule width starts to = codes "  " ++ (rule ++ (spaces (width - length rule) ++ (codes "    " ++ (parts_text r starts to ++ codes "\n"))))

abbrev pub shape_lines : Read → (first second : List ℕ) → Glade → List ℕ
shape_lines r first second glade =
    shape_line r first (max (length first) (length second)) glade.first.starts glade.to ++ shape_line r second (max (length first) (length second)) glade.second.starts glade.to

abbrev pub head_line : Grammar → Read → Glade → List ℕ
head_line g r glade =
    place_text r.characters (start_at r.spans glade.from) ++ (codes ": " ++ (name_of g glade.slot.symbol ++ (level_text glade.slot.level ++
    (codes " over `" ++ (tokens_text r glade.from glade.to ++ codes "`\n")))))

abbrev pub more_line : ℕ → List ℕ
more_line zero = []
more_line (suc k) = decimal (suc k) ++ codes " more of these two rules\n"

abbrev pub glade_text : Grammar → Read → Glade → (more : ℕ) → List ℕ
glade_text g r glade more = head_line g r glade ++ (shape_lines r (written_rule g glade.first.rule) (written_rule g glade.second.rule) glade ++ more_line more)

-- a glade is told where it has a mark
abbrev pub marked_text : Grammar → Read → Glade → (mark : Option ℕ) → List ℕ
marked_text g r glade None = []
marked_text g r glade (Some more) = glade_text g r glade more

abbrev pub told_text : Grammar → Read → List Glade → (marks : List (Option ℕ)) → List ℕ
told_text g r (glade ∷ glades) (mark ∷ marks) = marked_text g r glade mark ++ told_text g r glades marks
told_text g r glades marks = []
