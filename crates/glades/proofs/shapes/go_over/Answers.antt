use Rattle.std.proofs.Common.{◌++◌, ◌∙◌, List, ℕ, ap}
use Rattle.std.specs.Prelude.{reverse}
use Rattle.std.proofs.lemmas.Result.{on_ok_weaker}
use Rattle.glades.proofs.shapes.go_over.Goals as goal

pub returns : goal.returns
returns c = on_ok_weaker c.push_first.result (λ (starts, first, items). (starts, first, items ∙ ap (λ (l : List ℕ). l ++ reverse starts) c.in_ok-pass.ensures)) c.push_first.ensures
