use Rattle.std.proofs.Common.{arith}
use Rattle.tree_text.proofs.Escapes.{never_small, begins_small, no_brace, no_first, no_second, no_end, no_control, some_control}
use Rattle.tree_text.proofs.characters.read_control.Goals as goal

pub returns-in_err-inside : goal.returns-in_err-inside
returns-in_err-inside c = rw c.from_residual.ensures (no_brace _ (never_small _ 123 (omega arith) c.in_err-inside.ensures))

pub returns-in_err-high : goal.returns-in_err-high
returns-in_err-high c = rw c.from_residual-in_err-high.ensures (no_first _ _ (begins_small _ _ 123 (omega arith) c.in_ok-inside.ensures) c.in_err-high.ensures)

pub returns-in_err-low : goal.returns-in_err-low
returns-in_err-low c = rw c.from_residual-in_err-low.ensures (no_second _ _ _ _ (begins_small _ _ 123 (omega arith) c.in_ok-inside.ensures) c.in_ok-high.ensures c.in_err-low.ensures)

pub returns-in_err-rest : goal.returns-in_err-rest
returns-in_err-rest c =
    rw c.from_residual-in_err-rest.ensures (no_end _ _ _ _ _ _ (begins_small _ _ 123 (omega arith) c.in_ok-inside.ensures) c.in_ok-high.ensures c.in_ok-low.ensures (never_small _ 125 (omega arith) c.in_err-rest.ensures))

pub returns-in_err-c : goal.returns-in_err-c
returns-in_err-c c =
    rw c.from_residual-in_err-c.ensures (no_control _ _ _ _ _ _ (begins_small _ _ 123 (omega arith) c.in_ok-inside.ensures) c.in_ok-high.ensures c.in_ok-low.ensures c.in_err-c.ensures)

pub returns : goal.returns
returns c =
    some_control _ _ _ _ _ _ _ c.in_ok-c.c (begins_small _ _ 123 (omega arith) c.in_ok-inside.ensures) c.in_ok-high.ensures c.in_ok-low.ensures (begins_small _ _ 125 (omega arith) c.in_ok-rest.ensures) c.in_ok-c.ensures
