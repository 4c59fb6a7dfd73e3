use Rattle.std.proofs.Common.{◌<◌, List, ℕ, length, sym, ap, ◌∙◌, arith}
use Rattle.std.proofs.lemmas.List.{length-map}
use Rattle.std.specs.Prelude.{slice_get}
use Rattle.plain_lister.specs.Lines.{value_line}
use Rattle.plain_lister.proofs.Listed.{line_at}
use Rattle.plain_lister.proofs.list.SlowList.append_line.Goals as goal

pub returns-clause-ok : goal.returns-clause-ok
returns-clause-ok c =
    let f : ℕ → List ℕ = value_line c.self.inside.pool in
    let lt : c.args.k < length c.self.inside.values.items = omega (arith, ap length c.self.view_is, length-map c.self.inside.values.items f) in
    (f c.index.result.now, ap (λ (l : List (List ℕ)). slice_get l c.args.k) (sym c.self.view_is) ∙ line_at f c.self.inside.values.items c.args.k c.index.result.now lt c.index.ensures, c.in_ok-append_value_line.ensures.ok)
