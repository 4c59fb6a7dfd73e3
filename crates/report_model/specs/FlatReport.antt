-- The report by a flat form of the grammar: what stands in the full item set of the place, in terms of written rules.
-- Sources: Earley 1970 (item sets); the Libmarpa manual (progress reports).
use Rattle.std.specs.Prelude.{◌≡◌, ℕ, ◌↔◌, List, Some, slice_get, Contains}
use Rattle.std.specs.List.Sorted.{IsStrictlySortedBy}
use Rattle.grammar_model.specs.Grammar.{Grammar}
use Rattle.grammar_model.specs.Derives.{Held}
use Rattle.grammar_model.specs.declared.Edge.{Edge}
use Rattle.recognizer_model.specs.declared.ReportLine.{ReportLine}
use Rattle.recognizer_model.specs.Flat.{FlatGrammar}
use Rattle.recognizer_model.specs.FlatForm.{FlatEdges}
use Rattle.recognizer_model.specs.Report.{IsLine}
use Rattle.report_model.specs.Report.{line_cmp}

pub record IsFlatReport (g : Grammar) (f : FlatGrammar) (edges : List Edge) (start place : ℕ) (lines : List ReportLine) : Type 0 where
  pub top : ℕ
  pub top_is : slice_get f.tops start ≡ Some top
  pub sorted : IsStrictlySortedBy line_cmp lines
  pub exact : (line : ReportLine) → Contains lines line ↔ IsLine g f (FlatEdges f (Held edges)) top place line
