use Rattle.lint_hints.specs.Found.{has}
use Rattle.lint_hints.proofs.Used.{more_used}
use Rattle.lint_hints.proofs.uses.Names.put_all.Goals as goal

pub loop-name-preserved : goal.loop-name-preserved
loop-name-preserved c = λ q. more_used q (has c.args.self.now q) (has c.loop-name.self q) (has c.put.new.self q) c.args.names.now c.loop-name.name-index _ c.loop-name-test.true (c.loop-name.invariant q) (c.in_ok-put.ensures q)
