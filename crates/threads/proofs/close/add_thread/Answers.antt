use Rattle.threads.proofs.Equal.{adds_key}
use Rattle.threads.proofs.close.add_thread.Goals as goal

pub returns : goal.returns
returns c = adds_key c.args.set.now.keys c.insert.new.self.keys c.args.thread c.in_ok-insert.ensures.keys
