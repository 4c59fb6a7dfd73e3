use Rattle.std.proofs.Common.{sym, ◌∙◌}
use Rattle.tree_text.proofs.Escapes.{no_high, no_low, no_code, some_code}
use Rattle.tree_text.proofs.characters.control.Goals as goal

pub returns-in_err-first : goal.returns-in_err-first
returns-in_err-first c = rw c.from_residual.ensures (no_high _ c.args.low c.in_err-first.ensures)

pub returns-in_err-second : goal.returns-in_err-second
returns-in_err-second c = rw c.from_residual-in_err-second.ensures (no_low c.args.high _ c.in_err-second.ensures)

pub returns-else-has_code : goal.returns-else-has_code
returns-else-has_code c =
    no_code _ _ _ _ _ c.in_ok-first.ensures.0 c.in_ok-first.ensures.1 c.in_ok-second.ensures.0 c.in_ok-second.ensures.1 c.from-c.ensures (sym c.has_code.ensures ∙ c.if-has_code.false)

pub returns-then-has_code : goal.returns-then-has_code
returns-then-has_code c =
    some_code _ _ _ _ _ c.in_ok-first.ensures.0 c.in_ok-first.ensures.1 c.in_ok-second.ensures.0 c.in_ok-second.ensures.1 c.from-c.ensures (sym c.has_code.ensures ∙ c.if-has_code.true)
