use Rattle.std.proofs.Common.{List, Contains, sym, subst}
use Rattle.std.specs.List.Sorted.{IsStrictlySortedBy}
use Rattle.std.proofs.lemmas.List.Filters.{dedup_is}
use Rattle.std.proofs.lemmas.List.Kept.{IsStrictlySortedBy-dedup, Contains-from_dedup, Contains-dedup}
use Rattle.std.proofs.lemmas.List.Sorted.{Contains-permutation, IsPermutation-sym}
use Rattle.recognizer_model.specs.declared.ReportLine.{ReportLine}
use Rattle.report_model.specs.Report.{line_cmp}
use Rattle.report_model.proofs.Order.{lines_total}
use Rattle.progress.proofs.Order.{same_line, line_ties, line_equiv, line_exact}
use Rattle.progress.proofs.lines.sort.Goals as goal

pub returns-clause-sorted : goal.returns-clause-sorted
returns-clause-sorted c =
    subst (λ (l : List ReportLine). IsStrictlySortedBy line_cmp l) (sym (dedup_is same_line c.sort.new.self.items c.dedup.new.self.items c.dedup.ensures.filtered)) (IsStrictlySortedBy-dedup lines_total line_ties c.sort.new.self.items c.in_ok-sort.ensures.sorted)

pub returns-clause-same : goal.returns-clause-same
returns-clause-same c line =
    let is = dedup_is same_line c.sort.new.self.items c.dedup.new.self.items c.dedup.ensures.filtered in (
      λ h. Contains-permutation c.sort.new.self.items c.args.lines.now.items line (IsPermutation-sym c.args.lines.now.items c.sort.new.self.items c.in_ok-sort.ensures.permutation) (Contains-from_dedup same_line c.sort.new.self.items line (subst (λ (l : List ReportLine). Contains l line) is h)),
      λ h. subst (λ (l : List ReportLine). Contains l line) (sym is) (Contains-dedup line_equiv line_exact c.sort.new.self.items line (Contains-permutation c.args.lines.now.items c.sort.new.self.items line c.in_ok-sort.ensures.permutation h)),
    )
