use Rattle.std.proofs.Common.{None, arith, subst}
use Rattle.threads.proofs.Closing.{grows_more}
use Rattle.std.proofs.lemmas.List.{take_all}
use Rattle.threads.specs.Closing.{Grows}
use Rattle.threads.proofs.close.add_threads.Goals as goal

pub loop-thread-preserved : goal.loop-thread-preserved
loop-thread-preserved c = grows_more c.args.set.now.keys c.loop-thread.set.keys c.add_thread.new.set.keys c.args.threads.now c.loop-thread.thread-index (record { rule = 0; dot = 0; label = None }) (omega arith) c.loop-thread.invariant c.in_ok-add_thread.ensures

pub returns : goal.returns
returns c = subst (λ l. Grows c.args.set.now.keys c.loop-thread.set.keys l) (take_all c.loop-thread.thread-index c.args.threads.now c.loop-thread-test.false) c.loop-thread.invariant
