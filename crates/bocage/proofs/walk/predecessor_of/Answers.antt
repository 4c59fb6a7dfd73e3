use Rattle.std.proofs.Common.{◌≡◌, ◌<◌, arith}
use Rattle.recognizer_model.specs.declared.NodeKey.{NodeKey}
use Rattle.bocage.specs.Walk.{node_of_item}
use Rattle.bocage.proofs.Growing.{grows_weaker}
use Rattle.bocage.proofs.walk.predecessor_of.Goals as goal

pub returns-clause-grows : goal.returns-clause-grows
returns-clause-grows c =
    let f = c.if-predecessor-eq0.false in
    grows_weaker (λ (k : NodeKey). (0 < c.args.predecessor.dot) × (k ≡ node_of_item c.args.predecessor c.args.end)) (λ (k : NodeKey). k ≡ node_of_item c.args.predecessor c.args.end) c.args.keys.now.keys c.number_of.new.keys.keys (λ k e. (omega arith, e)) c.in_ok-number_of.ensures.grows
