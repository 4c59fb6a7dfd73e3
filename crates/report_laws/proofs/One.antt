-- A place has one report.
use Rattle.grammar_model.proofs.Lists.{one_sorted}
use Rattle.report_model.specs.Report.{line_cmp}
use Rattle.report_laws.specs.Laws.{ReportIsOne}
use Rattle.report_model.proofs.Order.{line_asym}
use Rattle.finite_sets.proofs.Members.{among_from, contains_from}

pub report_is_one : ReportIsOne
report_is_one g edges start place xs ys a b =
    one_sorted line_cmp line_asym xs ys a.sorted b.sorted
    (λ line m. among_from ys line ((b.exact line).1 ((a.exact line).0 (contains_from xs line m))))
    (λ line m. among_from xs line ((a.exact line).1 ((b.exact line).0 (contains_from ys line m))))
