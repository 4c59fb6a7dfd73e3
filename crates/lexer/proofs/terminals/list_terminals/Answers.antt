use Rattle.std.proofs.Common.{◌≡◌, ◌++◌, ◌∷◌, [], ◌+◌, sym, subst, take}
use Rattle.std.proofs.lemmas.List.{take_all}
use Rattle.lexer.specs.Terminals.{AreTerminalsOf}
use Rattle.lexer.proofs.Listing.{terminals_more, terminals_same}
use Rattle.lexer.proofs.terminals.list_terminals.Goals.{then-contains+in_ok-push, else-contains}
use Rattle.lexer.proofs.terminals.list_terminals.Goals as goal

pub loop-terminal-preserved : goal.loop-terminal-preserved
loop-terminal-preserved c = elim c.if-contains.branch [
  | then-contains+in_ok-push w ↦
      let a = w.terminals-is in
      let b = w.in_ok-push.ensures.items in
      let e : c.if-contains.terminals.items ≡ c.loop-terminal.terminals.items ++ c.loop-terminal-item.result.0 ∷ [] = cc in
      subst (AreTerminalsOf (take (c.loop-terminal.terminal-index + 1) c.args.sets.now) c.args.c) (sym e)
      (terminals_more c.args.sets.now c.args.c c.loop-terminal.terminal-index c.loop-terminal-item.result c.loop-terminal.terminals.items c.loop-terminal-test.true c.loop-terminal-item.is c.loop-terminal.invariant
      (c.contains.ensures.0 w.if-contains.true))
  | else-contains w ↦
      let a = w.terminals-is in
      let f = w.if-contains.false in
      let e : c.if-contains.terminals.items ≡ c.loop-terminal.terminals.items = cc in
      subst (AreTerminalsOf (take (c.loop-terminal.terminal-index + 1) c.args.sets.now) c.args.c) (sym e)
      (terminals_same c.args.sets.now c.args.c c.loop-terminal.terminal-index c.loop-terminal-item.result c.loop-terminal.terminals.items c.loop-terminal-test.true c.loop-terminal-item.is c.loop-terminal.invariant
      (λ m. let t = c.contains.ensures.1 m in absurd (cc)))
]

pub returns : goal.returns
returns c = subst (λ s. AreTerminalsOf s c.args.c c.loop-terminal.terminals.items) (take_all c.loop-terminal.terminal-index c.args.sets.now c.loop-terminal-test.false) c.loop-terminal.invariant
