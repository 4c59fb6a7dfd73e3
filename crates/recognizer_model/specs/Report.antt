-- Lines of a progress report, by a flat form.
use Rattle.std.specs.Prelude.{◌≡◌, ℕ, Option, Some, None, is_some, ◌==◌, ◌&&◌, if◌then◌else◌, slice_index_or}
use Rattle.recognizer_model.specs.declared.Item.{Item}
use Rattle.recognizer_model.specs.declared.ReportLine.{ReportLine}
use Rattle.grammar_model.specs.Grammar.{Grammar, WrittenRule, Plain, Sequence, rule_at}
use Rattle.recognizer_model.specs.Flat.{FlatGrammar, FlatSource, Written, OfStart, no_rule}
use Rattle.grammar_model.specs.Derives.{Edges}
use Rattle.recognizer_model.specs.Items.{InSet}

-- of a sequence: 0 before anything, 2 after a separator, 1 after an item
abbrev pub written_dot : WrittenRule → ℕ → ℕ
written_dot (Plain r) dot = dot
written_dot (Sequence r) dot = if dot == 0 then 0 else (if (dot == 2) && is_some r.separator then 2 else 1)

abbrev pub line_by : Grammar → FlatSource → Item → Option ReportLine
line_by w (Written r) item = Some (record { rule = r; dot = written_dot (rule_at w r) item.dot; origin = item.origin })
line_by w (OfStart s) item = None

-- an item in terms of written rules; the top rules have none
abbrev pub line_of : Grammar → FlatGrammar → Item → Option ReportLine
line_of w g item = line_by w (slice_index_or g.rules item.rule no_rule).source item

-- the lines of the full set
abbrev pub IsLine : (w : Grammar) (g : FlatGrammar) (E : Edges) (top place : ℕ) → ReportLine → Type 0
IsLine w g E top place line = (item : Item) × InSet g E top place item × (line_of w g item ≡ Some line)
