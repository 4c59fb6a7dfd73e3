use Rattle.std.proofs.lemmas.Result.{on_ok_weaker}
use Rattle.threads.proofs.Closing.{predicted}
use Rattle.threads.proofs.close.list_predicted.Goals as goal

pub returns : goal.returns
returns c =
    on_ok_weaker c.list_rules.result
    (predicted c.args.flat.now c.args.symbol c.rules_of-rules.result.start c.rules_of-rules.result.end c.args.next.now.items c.list_rules.new.next.items c.rules_of-rules.ensures)
    c.list_rules.ensures
