use Rattle.earley_sets.proofs.Unbinding.{bound}
use Rattle.earley_sets.proofs.recce.UnboundRecce.bind.Goals as goal

pub invariant_of-result : goal.invariant_of-result
invariant_of-result c = bound c.args.flat.now c.args.self c.bind.result c.bind.ensures c.requires
