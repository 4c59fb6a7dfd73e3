use Rattle.std.proofs.lemmas.Result.{on_ok_weaker}
use Rattle.lint_hints.specs.Found.{causes_of}
use Rattle.lint_hints.proofs.nullable.look_at_sequences.Goals as goal

pub returns : goal.returns
returns c = on_ok_weaker c.look_at_each.result (λ e. record { causes = causes_of c.in_ok-nullable.nullable; each = c.in_ok-nullable.ensures; are = e }) c.look_at_each.ensures
