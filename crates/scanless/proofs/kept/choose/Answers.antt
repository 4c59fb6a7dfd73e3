use Rattle.std.proofs.Common.{arith, ◌≡◌, true, sym, subst}
use Rattle.std.proofs.lemmas.Grind.{common_steps}
use Rattle.scanless.specs.Pieces.{IsLongestBy}
use Rattle.scanless.proofs.kept.choose.Goals as goal

pub returns-then-not-is_empty-clause-chosen : goal.returns-then-not-is_empty-clause-chosen
returns-then-not-is_empty-clause-chosen c = λ text pieces at n holds by. (
  (let e = c.is_empty.ensures in let f = c.list_kept.new.kept.ok.0 in grind (arith, common_steps)),
  c.in_ok-list_kept.ensures.exact text pieces at n holds (subst (IsLongestBy c.args.p.now text pieces at n) (sym c.as_slice.ensures.value) by),
)

pub returns-then-is_skipped-clause-chosen : goal.returns-then-is_skipped-clause-chosen
returns-then-is_skipped-clause-chosen c = λ text pieces at n holds by. (
  (λ symbol k.
      let (i, lt, e) = (c.in_ok-list_kept.ensures.exact text pieces at n holds (subst (IsLongestBy c.args.p.now text pieces at n) (sym c.as_slice.ensures.value) by) symbol).1 k in
      let e = c.is_empty.ensures in let f = c.list_kept.new.kept.ok.0 in grind (arith, common_steps)),
  (c.is_skipped.ensures text pieces at n (subst (IsLongestBy c.args.p.now text pieces at n) (sym c.as_slice-2.ensures.value) by)).0 (let t : c.is_skipped.result ≡ true = cc in t),
)

pub returns-clause-chosen : goal.returns-clause-chosen
returns-clause-chosen c = λ text pieces at n holds by. (
  (λ symbol k.
      let (i, lt, e) = (c.in_ok-list_kept.ensures.exact text pieces at n holds (subst (IsLongestBy c.args.p.now text pieces at n) (sym c.as_slice.ensures.value) by) symbol).1 k in
      let e = c.is_empty.ensures in let f = c.list_kept.new.kept.ok.0 in grind (arith, common_steps)),
  (λ s. let t = (c.is_skipped.ensures text pieces at n (subst (IsLongestBy c.args.p.now text pieces at n) (sym c.as_slice-2.ensures.value) by)).1 s in cc),
)
