use Rattle.std.proofs.Common.{[], refl, subst}
use Rattle.std.proofs.lemmas.List.{append-nil}
use Rattle.tree_iter.specs.declared.walk.Walk.{Walk}
use Rattle.forest_laws.specs.Goals.{root_goals}
use Rattle.tree_iter.specs.Goals.{IsStack, Puts}
use Rattle.tree_iter.proofs.Walks.{begun_walk}
use Rattle.std.proofs.lemmas.Result.{IfOk-from_err}
use Rattle.tree_iter.proofs.walk.Walk.begin.Goals as goal

pub returns-clause-begun : goal.returns-clause-begun
returns-clause-begun c = λ copied.
    let w : Walk = record { forest = c.args.forest; goals = c.put_root.new.rows; left = c.in_ok-left.left; choices = c.new.result; counts = c.new-2.result; steps = c.new-3.result } in
    begun_walk w c.known.ensures c.new.ensures.items c.new-2.ensures.items c.new-3.ensures.items
    (subst (λ rows. Puts rows c.put_root.new.rows.items 0 c.in_ok-left.left (root_goals c.args.forest.now c.args.forest.now.root)) c.new-goals.ensures.items c.in_ok-left.ensures) copied

pub returns-in_err-left-clause-forest : goal.returns-in_err-left-clause-forest
returns-in_err-left-clause-forest c = IfOk-from_err _ _ c.from_residual.ensures.0

pub returns-in_err-left-clause-begun : goal.returns-in_err-left-clause-begun
returns-in_err-left-clause-begun c = IfOk-from_err _ _ c.from_residual.ensures.0

pub returns-clause-nothing : goal.returns-clause-nothing
returns-clause-nothing c =
    let goals = root_goals c.args.forest.now c.args.forest.now.root in
    let puts = subst (λ rows. Puts rows c.put_root.new.rows.items 0 c.in_ok-left.left (root_goals c.args.forest.now c.args.forest.now.root)) c.new-goals.ensures.items c.in_ok-left.ensures in
    record {
      choices = c.new.ensures.items;
      counts = c.new-2.ensures.items;
      steps = c.new-3.ensures.items;
      left = subst (IsStack c.put_root.new.rows.items c.in_ok-left.left) (append-nil goals) (puts.stack [] refl);
    }

pub returns-in_err-left-clause-nothing : goal.returns-in_err-left-clause-nothing
returns-in_err-left-clause-nothing c = IfOk-from_err _ _ c.from_residual.ensures.0
