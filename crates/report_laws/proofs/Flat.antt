-- The report of a place tells its item set, by any flat form.
use Rattle.std.proofs.Common.{◌≡◌, ℕ, ◌<◌, List, Some, ◌↔◌, length, arith}
use Rattle.std.specs.Prelude.{slice_get, slice_index_or}
use Rattle.std.proofs.lemmas.Option.{slice_get-get_or}
use Rattle.grammar_model.specs.Grammar.{Grammar}
use Rattle.grammar_model.specs.Derives.{Held}
use Rattle.grammar_model.specs.Checked.{IsChecked}
use Rattle.grammar_model.specs.declared.Edge.{Edge}
use Rattle.recognizer_model.specs.declared.ReportLine.{ReportLine}
use Rattle.recognizer_model.specs.Flat.{FlatGrammar}
use Rattle.recognizer_model.specs.FlatForm.{FlatEdges, IsFlatOf}
use Rattle.recognizer_model.specs.Invariant.{IsFlat}
use Rattle.recognizer_model.specs.Report
use Rattle.recognizer_model.proofs.Earley.{items_are_found}
use Rattle.grammar_laws.specs.Laws.{GoForward}
use Rattle.report_model.specs.Report.{IsLine, IsReport}
use Rattle.report_model.specs.FlatReport.{IsFlatReport}
use Rattle.report_laws.specs.Laws.{ReportsAreFlat}
use Rattle.report_laws.proofs.FromItems.{written_line}
use Rattle.report_laws.proofs.ToItems.{flat_line}

module _ (w : Grammar) (f : FlatGrammar) (edges : List Edge) (is_flat : IsFlat f) (form : IsFlatOf f w) (checked : IsChecked w) (forward : GoForward (Held edges)) (start top : ℕ) (top_is : slice_get f.tops start ≡ Some top) where
  pub lines_are_flat : (place : ℕ) (line : ReportLine) → IsLine w (Held edges) start place line ↔ Report.IsLine w f (FlatEdges f (Held edges)) top place line
  lines_are_flat place line =
      let law = items_are_found f (FlatEdges f (Held edges)) top (is_flat.tops start top top_is).is_top place in (
        flat_line f w is_flat form checked (Held edges) forward start top top_is place line,
        λ (item, i, is). written_line f w is_flat form checked (Held edges) start top top_is place item line ((law item).0 i) is,
      )

pub flat_of_report : (w : Grammar) (f : FlatGrammar) (edges : List Edge) (start place : ℕ) (lines : List ReportLine) → IsFlat f → IsFlatOf f w → IsChecked w → GoForward (Held edges) → start < length w.starts →
    IsReport w edges start place lines → IsFlatReport w f edges start place lines
flat_of_report w f edges start place lines is_flat form checked forward lt r =
    let top = slice_index_or f.tops start 0 in
    let count = form.tops_all in
    let top_is = slice_get-get_or f.tops start 0 (omega (arith, lt, count)) in
    let same = lines_are_flat w f edges is_flat form checked forward start top top_is place in
    record { top = top; top_is = top_is; sorted = r.sorted; exact = λ line. (λ c. (same line).0 ((r.exact line).0 c), λ l. (r.exact line).1 ((same line).1 l)) }

pub report_of_flat : (w : Grammar) (f : FlatGrammar) (edges : List Edge) (start place : ℕ) (lines : List ReportLine) → IsFlat f → IsFlatOf f w → IsChecked w → GoForward (Held edges) →
    IsFlatReport w f edges start place lines → IsReport w edges start place lines
report_of_flat w f edges start place lines is_flat form checked forward r =
    let same = lines_are_flat w f edges is_flat form checked forward start r.top r.top_is place in
    record { sorted = r.sorted; exact = λ line. (λ c. (same line).1 ((r.exact line).0 c), λ l. (r.exact line).1 ((same line).0 l)) }

pub reports_are_flat : ReportsAreFlat
reports_are_flat w f edges start place lines is_flat form checked forward lt =
    (flat_of_report w f edges start place lines is_flat form checked forward lt, report_of_flat w f edges start place lines is_flat form checked forward)
