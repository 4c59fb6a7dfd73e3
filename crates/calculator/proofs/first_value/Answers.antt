use Rattle.std.proofs.lemmas.Result.{err_from_is_err_and}
use Rattle.calculator.proofs.First.{AreAtFirst, at_first, worth_told, fault_told, failure_told}
use Rattle.calculator.proofs.first_value.Goals as goal

pub returns-in_err-fold-clause-fault : goal.returns-in_err-fold-clause-fault
returns-in_err-fold-clause-fault c =
    let at : AreAtFirst c.args.forest.now.read c.next.new.self =
    at_first c.args.forest.now c.in_ok-derivations.derivations c.next.new.self c.requires c.in_ok-derivations.ensures c.in_ok-next.ensures.read c.in_ok-next.ensures.forest c.in_ok-next.field-0 c.if-not-branch.false c.in_ok-next.ensures.answer c.known.ensures in
    let p = err_from_is_err_and c.from_residual-in_err-fold.result c.from_residual-in_err-fold.ensures.1 in
    rw (p.1, p.2) (failure_told c.args.forest.now.read c.next.new.self at (record {}) c.fold.new.semantics c.in_err-fold.field-0.0 c.in_err-fold.ensures.failure)

pub returns-clause-worth : goal.returns-clause-worth
returns-clause-worth c =
    let at : AreAtFirst c.args.forest.now.read c.next.new.self =
    at_first c.args.forest.now c.in_ok-derivations.derivations c.next.new.self c.requires c.in_ok-derivations.ensures c.in_ok-next.ensures.read c.in_ok-next.ensures.forest c.in_ok-next.field-0 c.if-not-branch.false c.in_ok-next.ensures.answer c.known.ensures in
    worth_told c.args.forest.now.read c.next.new.self at (record {}) c.fold.new.semantics c.in_ok-fold.field-0 c.number.result c.in_ok-fold.ensures.value c.number.ensures

pub returns-clause-fault : goal.returns-clause-fault
returns-clause-fault c =
    let at : AreAtFirst c.args.forest.now.read c.next.new.self =
    at_first c.args.forest.now c.in_ok-derivations.derivations c.next.new.self c.requires c.in_ok-derivations.ensures c.in_ok-next.ensures.read c.in_ok-next.ensures.forest c.in_ok-next.field-0 c.if-not-branch.false c.in_ok-next.ensures.answer c.known.ensures in
    fault_told c.args.forest.now.read c.next.new.self at (record {}) c.fold.new.semantics c.in_ok-fold.field-0 c.number.result c.in_ok-fold.ensures.value c.number.ensures
