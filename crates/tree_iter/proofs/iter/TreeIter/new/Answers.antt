use Rattle.std.proofs.Common.{[], refl}
use Rattle.forest_laws.specs.Lists.{trees_by}
use Rattle.std.proofs.lemmas.Result.{IfOk-from_err}
use Rattle.tree_iter.proofs.iter.TreeIter.new.Goals as goal

pub returns-in_err-walk-clause-begun : goal.returns-in_err-walk-clause-begun
returns-in_err-walk-clause-begun c = IfOk-from_err _ _ c.from_residual.ensures.0

pub returns-in_err-walk-clause-none : goal.returns-in_err-walk-clause-none
returns-in_err-walk-clause-none c = IfOk-from_err _ _ c.from_residual.ensures.0

pub returns-clause-none : goal.returns-clause-none
returns-clause-none c =
    let u = c.in_ok-walk.ensures.begun [] in
    record { first = record { rest = trees_by c.in_ok-walk.walk.forest.now u.lists; listing = u.all.listing }; are_before = refl }
