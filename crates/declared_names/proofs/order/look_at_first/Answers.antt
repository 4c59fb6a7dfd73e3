use Rattle.declared_names.proofs.First.{AreAtFirst, at_first, in_order, fault_told}
use Rattle.declared_names.proofs.order.look_at_first.Goals as goal

pub returns-in-Ok-clause-ok : goal.returns-in-Ok-clause-ok
returns-in-Ok-clause-ok c =
    let at : AreAtFirst c.args.forest.now.read c.next.new.self =
    at_first c.args.forest.now c.in_ok-derivations.derivations c.next.new.self c.requires c.in_ok-derivations.ensures c.in_ok-next.ensures.read c.in_ok-next.ensures.forest c.in_ok-next.field-0 c.if-not-branch.false c.in_ok-next.ensures.answer c.known.ensures in
    in_order c.args.forest.now.read c.next.new.self at c.new-scope.result c.fold.new.semantics c.in-Ok.field-0 c.new-scope.ensures c.in-Ok.ensures.value

pub returns-in-Err-Semantics-clause-err : goal.returns-in-Err-Semantics-clause-err
returns-in-Err-Semantics-clause-err c =
    let at : AreAtFirst c.args.forest.now.read c.next.new.self =
    at_first c.args.forest.now c.in_ok-derivations.derivations c.next.new.self c.requires c.in_ok-derivations.ensures c.in_ok-next.ensures.read c.in_ok-next.ensures.forest c.in_ok-next.field-0 c.if-not-branch.false c.in_ok-next.ensures.answer c.known.ensures in
    fault_told c.args.forest.now.read c.next.new.self at c.new-scope.result c.fold.new.semantics c.in-Err-Semantics.field-0 c.in-Err-Semantics.fault c.new-scope.ensures c.in-Err-Semantics.field-0-is c.in-Err-Semantics.ensures.failure
