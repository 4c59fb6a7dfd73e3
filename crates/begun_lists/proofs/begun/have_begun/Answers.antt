use Rattle.begun_lists.proofs.Beginning.{all_begun}
use Rattle.begun_lists.proofs.begun.have_begun.Goals as goal

pub returns : goal.returns
returns c t =
    all_begun c.args.flat.now c.args.symbol c.rules_of-rules.result.start c.rules_of-rules.result.end c.rules_of-rules.ensures c.args.set.now c.requires.together (c.contains.ensures.0 t)
