-- Laws of reports: each place of a recognizer has exactly one, and it tells the item set of the place.
use Rattle.std.specs.Prelude.{◌≡◌, ℕ, ◌<◌, ◌↔◌, List, length, Some, slice_get, Contains}
use Rattle.grammar_model.specs.Grammar.{Grammar, slot_of, rule_at}
use Rattle.grammar_model.specs.Trees.{Tree, Children, child_count}
use Rattle.grammar_model.specs.Derives.{Held, Derives}
use Rattle.grammar_model.specs.declared.Edge.{Edge}
use Rattle.grammar_model.specs.Checked.{IsChecked}
use Rattle.recognizer_model.specs.declared.ReportLine.{ReportLine}
use Rattle.recognizer_model.specs.Flat.{FlatGrammar}
use Rattle.recognizer_model.specs.FlatForm.{IsFlatOf}
use Rattle.recognizer_model.specs.Invariant.{IsFlat}
use Rattle.recognizer_model.specs.Nodes.{Has}
use Rattle.grammar_laws.specs.Laws.{GoForward}
use Rattle.flat_model.specs.Lists.{lists}
use Rattle.grammar_laws.specs.Applied.{tokens}
use Rattle.report_model.specs.Report.{IsReport, IsLine, dot_behind}
use Rattle.report_model.specs.FlatReport.{IsFlatReport}

abbrev pub ReportIsOne : Type 0
ReportIsOne = (g : Grammar) (edges : List Edge) (start place : ℕ) (xs ys : List ReportLine) → IsReport g edges start place xs → IsReport g edges start place ys → xs ≡ ys

-- of a checked grammar, over edges that go forward, by any flat form
abbrev pub ReportsAreFlat : Type 0
ReportsAreFlat = (g : Grammar) (f : FlatGrammar) (edges : List Edge) (start place : ℕ) (lines : List ReportLine) → IsFlat f → IsFlatOf f g → IsChecked g → GoForward (Held edges) → start < length g.starts →
    IsReport g edges start place lines ↔ IsFlatReport g f edges start place lines

abbrev pub ReportsExist : Type 0
ReportsExist = (g : Grammar) (f : FlatGrammar) (edges : List Edge) (start place : ℕ) → IsFlat f → IsFlatOf f g → IsChecked g → GoForward (Held edges) → start < length g.starts →
    (lines : List ReportLine) × IsReport g edges start place lines

-- wherever a derivation of the start comes by, the report of that place says so: of each node of it, and of as many of its children as end there
abbrev pub DerivationsAreSeen : Type 0
DerivationsAreSeen = (g : Grammar) (edges : List Edge) (start symbol place : ℕ) (tree : Tree) (rule from to : ℕ) (children : Children) → slice_get g.starts start ≡ Some symbol →
    Derives g (Held edges) (slot_of symbol) 0 place tree → Has tree rule from to children →
    IsLine g (Held edges) start to (record { rule = rule; dot = dot_behind (rule_at g rule) (child_count children); origin = from })

-- a grammar of lists, after an item and a separator: the line of the list says so
abbrev pub ReportsApply : Type 0
ReportsApply = (lines : List ReportLine) × IsReport lists tokens 0 2 lines × Contains lines (record { rule = 1; dot = 2; origin = 0 })
