-- The order of lines is total, and ties are one line.
use Rattle.std.proofs.Common.{◌≡◌, ◌⊎◌, inl, inr, refl, ap, ◌∙◌}
use Rattle.std.specs.declared.cmp.Ordering.{Ordering}
use Rattle.std.specs.declared.cmp.Ordering.TheVariants.{Less, Equal, Greater}
use Rattle.std.specs.Ordering.{ordering_then, ordering_reverse, nat_cmp}
use Rattle.std.specs.Cmp.{IsTotalOrder, nat_cmp_total, then_total, on_total}
use Rattle.finite_sets.proofs.Clauses.{nat_cmp-Equal, then_equal}
use Rattle.recognizer_model.specs.declared.ReportLine.{ReportLine}
use Rattle.report_model.specs.Report.{line_cmp}

pub lines_total : IsTotalOrder line_cmp
lines_total =
    then_total (on_total (λ (x : ReportLine). x.rule) nat_cmp_total)
    (then_total (on_total (λ (x : ReportLine). x.dot) nat_cmp_total) (on_total (λ (x : ReportLine). x.origin) nat_cmp_total))

tied : (x y : ReportLine) → line_cmp x y ≡ Equal → x ≡ y
tied x y e =
    let (a, rest) = then_equal (nat_cmp x.rule y.rule) (ordering_then (nat_cmp x.dot y.dot) (nat_cmp x.origin y.origin)) e in
    let (b, c) = then_equal (nat_cmp x.dot y.dot) (nat_cmp x.origin y.origin) rest in
    let p = nat_cmp-Equal x.rule y.rule a in
    let q = nat_cmp-Equal x.dot y.dot b in
    let r = nat_cmp-Equal x.origin y.origin c in
    λ i. record { rule = p i; dot = q i; origin = r i }

pub line_asym : (x y : ReportLine) → line_cmp x y ≡ Less → line_cmp y x ≡ Less → ⊥
line_asym x y e e' = let f = lines_total.antisymm x y ∙ ap ordering_reverse e' in cc

pub line_three : (x y : ReportLine) → (line_cmp x y ≡ Less) ⊎ ((x ≡ y) ⊎ (line_cmp y x ≡ Less))
line_three x y = go (line_cmp x y) refl
  where
    go : (o : Ordering) → line_cmp x y ≡ o → (line_cmp x y ≡ Less) ⊎ ((x ≡ y) ⊎ (line_cmp y x ≡ Less))
    go Less e = inl e
    go Equal e = inr (inl (tied x y e))
    go Greater e = inr (inr (lines_total.antisymm y x ∙ ap ordering_reverse e))
