use Rattle.std.proofs.Common.{◌≡◌, inl, inr, subst, arith}
use Rattle.std.proofs.lemmas.Bool.{cases_lt}
use Rattle.item_rows.specs.Kept.{StandsForTerminal}
use Rattle.item_rows.proofs.Terminals.{terminals_end, no_terminal_past}
use Rattle.item_rows.proofs.dotted.terminal_count.Goals as goal

pub returns-then-not-is_terminal-clause-exact : goal.returns-then-not-is_terminal-clause-exact
returns-then-not-is_terminal-clause-exact c =
    terminals_end c.args.flat.now c.known.ensures.arranged c.loop-symbol.symbol c.loop-symbol.invariant (λ stands. (let t = c.is_terminal.ensures.1 stands in let f = c.if-not-is_terminal.true in absurd (cc)))

pub loop-symbol-preserved : goal.loop-symbol-preserved
loop-symbol-preserved c x lt = elim (cases_lt x c.loop-symbol.symbol) [
  | inl l ↦ c.loop-symbol.invariant x l
  | inr le ↦ let same : c.loop-symbol.symbol ≡ x = omega arith in subst (λ n. StandsForTerminal c.args.flat.now n) same (c.is_terminal.ensures.0 c.if-not-is_terminal.false)
]

pub returns-clause-exact : goal.returns-clause-exact
returns-clause-exact c =
    let n = c.symbol_count.ensures in
    let m = c.symbol_count-symbol-end.ensures in
    let f = c.loop-symbol-test.false in
    terminals_end c.args.flat.now c.known.ensures.arranged c.symbol_count.result (λ x lt. c.loop-symbol.invariant x (omega arith)) (no_terminal_past c.args.flat.now c.symbol_count.result (omega arith))
