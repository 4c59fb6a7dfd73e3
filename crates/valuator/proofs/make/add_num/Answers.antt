use Rattle.std.proofs.Common.{refl}
use Rattle.std.proofs.lemmas.Result.{IfOk-from_err}
use Rattle.valuator.proofs.Grown.{grown_put, grown_kept, stands_put, ids_kept, ids_more, values_at_put}
use Rattle.valuator.proofs.make.add_num.Goals as goal

pub returns-clause-ok : goal.returns-clause-ok
returns-clause-ok c = rw (← c.from.ensures) (values_at_put _ _ _ _ _ _ c.in_ok-id.ensures.ok c.requires c.in_ok-push.ensures.items)

pub returns-clause-ids : goal.returns-clause-ids
returns-clause-ids c = ids_more _ _ _ _ _ _ (grown_put _ _ _ _ c.in_ok-id.ensures.ok) c.requires (stands_put _ _ _ _ c.in_ok-id.ensures.ok) c.in_ok-push.ensures.items

pub returns-clause-grown : goal.returns-clause-grown
returns-clause-grown c = grown_put _ _ _ _ c.in_ok-id.ensures.ok

pub returns-in_err-id-clause-ok : goal.returns-in_err-id-clause-ok
returns-in_err-id-clause-ok c = IfOk-from_err _ _ c.from_residual.ensures.0

pub returns-in_err-id-clause-ids : goal.returns-in_err-id-clause-ids
returns-in_err-id-clause-ids c = ids_kept _ _ _ _ (grown_kept _ _ c.in_err-id.ensures.err) c.requires refl

pub returns-in_err-id-clause-grown : goal.returns-in_err-id-clause-grown
returns-in_err-id-clause-grown c = grown_kept _ _ c.in_err-id.ensures.err

pub returns-in_err-push-clause-ok : goal.returns-in_err-push-clause-ok
returns-in_err-push-clause-ok c = IfOk-from_err _ _ c.from_residual-in_err-push.ensures.0

pub returns-in_err-push-clause-ids : goal.returns-in_err-push-clause-ids
returns-in_err-push-clause-ids c = ids_kept _ _ _ _ (grown_put _ _ _ _ c.in_ok-id.ensures.ok) c.requires c.in_err-push.ensures.items

pub returns-in_err-push-clause-grown : goal.returns-in_err-push-clause-grown
returns-in_err-push-clause-grown c = grown_put _ _ _ _ c.in_ok-id.ensures.ok
