-- The order of lines tells lines apart.
use Rattle.std.proofs.Common.{◌≡◌, Bool, true, ◌==◌, ◌&&◌, sym, subst}
use Rattle.std.specs.Ordering.{nat_cmp, eq_by_cmp}
use Rattle.std.specs.Cmp.{IsEquivalence, unsigned_ties, both_tied, eq_by_cmp_equiv}
use Rattle.std.proofs.lemmas.Bool.{and_parts, eqb-true}
use Rattle.recognizer_model.specs.declared.ReportLine.{ReportLine}
use Rattle.report_model.specs.Report.{line_cmp}
use Rattle.report_model.proofs.Order.{lines_total}

abbrev pub same_line : ReportLine → ReportLine → Bool
same_line a b = (a.rule == b.rule) && ((a.dot == b.dot) && (a.origin == b.origin))

pub line_ties : (a b : ReportLine) → same_line a b ≡ eq_by_cmp line_cmp a b
line_ties a b =
    both_tied _ _ (nat_cmp a.rule b.rule) _ (unsigned_ties a.rule b.rule)
    (both_tied _ _ (nat_cmp a.dot b.dot) (nat_cmp a.origin b.origin) (unsigned_ties a.dot b.dot) (unsigned_ties a.origin b.origin))

pub line_equiv : IsEquivalence same_line
line_equiv = subst IsEquivalence (λ i x y. sym (line_ties x y) i) (eq_by_cmp_equiv lines_total)

pub line_exact : (a b : ReportLine) → same_line a b ≡ true → a ≡ b
line_exact a b h =
    let (r, h1) = and_parts (a.rule == b.rule) ((a.dot == b.dot) && (a.origin == b.origin)) h in
    let (d, o) = and_parts (a.dot == b.dot) (a.origin == b.origin) h1 in
    let er = eqb-true a.rule b.rule r in
    let ed = eqb-true a.dot b.dot d in
    let eo = eqb-true a.origin b.origin o in
    λ i. record { rule = er i; dot = ed i; origin = eo i }
