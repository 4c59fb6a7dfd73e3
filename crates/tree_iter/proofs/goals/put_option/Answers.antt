use Rattle.std.proofs.Common.{◌<◌, length, refl, sym, ap, subst}
use Rattle.std.proofs.lemmas.List.{length-map}
use Rattle.std.proofs.lemmas.Result.{IfOk-from_err}
use Rattle.forest_laws.specs.Goals.{Goal, IsGoal, options, whole_goals}
use Rattle.tree_iter.specs.Goals.{goal_opened, IsOpened, Puts}
use Rattle.tree_iter.specs.declared.goals.Put.{Put}
use Rattle.tree_iter.proofs.GoalLemmas.{whole_within, parts_count, parts_option, whole_option}
use Rattle.tree_iter.proofs.goals.put_option.Goals as goal

pub put_alternative-requires-clause-node : goal.put_alternative-requires-clause-node
put_alternative-requires-clause-node c = subst (IsGoal c.args.forest.now) (ap goal_opened c.in-Parts.is) c.requires.goal

pub put_alternative-requires-clause-alternatives : goal.put_alternative-requires-clause-alternatives
put_alternative-requires-clause-alternatives c = subst (IsOpened c.args.forest.now) c.in-Parts.is c.requires.opened

pub put_alternative-requires-clause-at : goal.put_alternative-requires-clause-at
put_alternative-requires-clause-at c =
    let f = c.args.forest.now in
    subst (λ k. c.args.at < k)
    (parts_count f c.in-Parts.node c.in-Parts.alternatives (subst (IsGoal f) (ap goal_opened c.in-Parts.is) c.requires.goal) (subst (IsOpened f) c.in-Parts.is c.requires.opened))
    (subst (λ (g : Goal). c.args.at < length (options f g)) (ap goal_opened c.in-Parts.is) c.requires.at)

pub node_of-requires : goal.node_of-requires
node_of-requires c =
    subst (λ k. c.args.at < k) (length-map c.in-OneOf.nodes.now (whole_goals c.args.forest.now c.in-OneOf.start c.in-OneOf.end))
    (subst (λ (g : Goal). c.args.at < length (options c.args.forest.now g)) (ap goal_opened c.in-OneOf.is) c.requires.at)

pub put_whole-requires : goal.put_whole-requires
put_whole-requires c =
    subst (λ n. n < length c.args.forest.now.nodes) (sym c.node_of.ensures)
    (whole_within c.args.forest.now (goal_opened c.args.opened.now) c.in-OneOf.start c.in-OneOf.end c.args.at c.in-OneOf.nodes.now (ap goal_opened c.in-OneOf.is) c.requires.goal c.requires.at)

pub returns-in_ok-top-in-Parts-clause-ok : goal.returns-in_ok-top-in-Parts-clause-ok
returns-in_ok-top-in-Parts-clause-ok c =
    let f = c.args.forest.now in
    let put : Put = record { top = c.in_ok-top-in-Parts.top; count = c.len.result } in
    parts_option f (goal_opened c.args.opened.now) c.in-Parts.node c.args.at c.args.behind c.in-Parts.alternatives c.args.rows.now.items c.put_alternative.new.rows.items put
    (ap goal_opened c.in-Parts.is) (subst (IsGoal f) (ap goal_opened c.in-Parts.is) c.requires.goal) (subst (IsOpened f) c.in-Parts.is c.requires.opened) c.requires.at c.len.ensures c.in_ok-top-in-Parts.ensures.ok

pub returns-in_ok-top-in-OneOf-clause-ok : goal.returns-in_ok-top-in-OneOf-clause-ok
returns-in_ok-top-in-OneOf-clause-ok c =
    let put : Put = record { top = c.in_ok-top-in-OneOf.top; count = length c.in-OneOf.nodes.now } in
    whole_option c.args.forest.now (goal_opened c.args.opened.now) c.in-OneOf.start c.in-OneOf.end c.args.at c.args.behind c.in-OneOf.nodes.now c.args.rows.now.items c.put_whole.new.rows.items put
    (ap goal_opened c.in-OneOf.is) c.requires.at refl
    (subst (λ n. Puts c.args.rows.now.items c.put_whole.new.rows.items c.args.behind c.in_ok-top-in-OneOf.top (whole_goals c.args.forest.now c.in-OneOf.start c.in-OneOf.end n)) c.node_of.ensures c.in_ok-top-in-OneOf.ensures.ok)

pub returns-in_err-top-in-Parts-clause-ok : goal.returns-in_err-top-in-Parts-clause-ok
returns-in_err-top-in-Parts-clause-ok c = IfOk-from_err _ _ c.from_residual.ensures.0

pub returns-in_err-top-in-OneOf-clause-ok : goal.returns-in_err-top-in-OneOf-clause-ok
returns-in_err-top-in-OneOf-clause-ok c = IfOk-from_err _ _ c.from_residual-in_err-top-in-OneOf.ensures.0
