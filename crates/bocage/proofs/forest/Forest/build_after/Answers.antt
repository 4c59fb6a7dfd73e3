use Rattle.bocage.specs.Expanded.{IsExpandedIn, IsHiddenNode, IsGivenIn}
use Rattle.bocage.specs.Given.{IsGivenAfter}
use Rattle.forest_parts.proofs.Counting.{rises_none, rises_of, rises_most}
use Rattle.std.proofs.lemmas.Result.{IfOk-from_err}
use Rattle.bocage.proofs.Before.{rises_after}
use Rattle.bocage.proofs.forest.Forest.build_after.Goals as goal

pub returns-clause-given : goal.returns-clause-given
returns-clause-given g c = c.grow.ensures.counted

pub returns-clause-after : goal.returns-clause-after
returns-clause-after g c start begun =
    rises_after c.args.w.now c.args.ranking c.args.recce.now c.args.given.now c.known.ensures c.requires.given start c.args.steps.now c.grow.new.steps begun c.grow.ensures.counted

pub returns-clause-counted : goal.returns-clause-counted
returns-clause-counted g c start n begun all =
    rises_most (IsExpandedIn c.args.w.now c.args.ranking c.args.recce.now) start c.grow.new.steps n
    (rises_of (IsGivenIn c.args.w.now c.args.ranking c.args.recce.now) (IsExpandedIn c.args.w.now c.args.ranking c.args.recce.now) start c.grow.new.steps (λ p h. h.0)
    (rises_after c.args.w.now c.args.ranking c.args.recce.now c.args.given.now c.known.ensures c.requires.given start c.args.steps.now c.grow.new.steps begun c.grow.ensures.counted)) all

pub returns-clause-needed : goal.returns-clause-needed
returns-clause-needed g c start n begun all =
    rises_most (IsHiddenNode c.args.w.now c.args.recce.now) start c.grow.new.steps n
    (rises_of (IsGivenIn c.args.w.now c.args.ranking c.args.recce.now) (IsHiddenNode c.args.w.now c.args.recce.now) start c.grow.new.steps (λ p (expanded, (node, below)). node)
    (rises_after c.args.w.now c.args.ranking c.args.recce.now c.args.given.now c.known.ensures c.requires.given start c.args.steps.now c.grow.new.steps begun c.grow.ensures.counted)) all

pub returns-in_err-grow-clause-given : goal.returns-in_err-grow-clause-given
returns-in_err-grow-clause-given g c = c.grow.ensures.counted

pub returns-in_err-grow-clause-after : goal.returns-in_err-grow-clause-after
returns-in_err-grow-clause-after g c start begun =
    rises_after c.args.w.now c.args.ranking c.args.recce.now c.args.given.now c.known.ensures c.requires.given start c.args.steps.now c.grow.new.steps begun c.grow.ensures.counted

pub returns-in_err-grow-clause-counted : goal.returns-in_err-grow-clause-counted
returns-in_err-grow-clause-counted g c start n begun all =
    rises_most (IsExpandedIn c.args.w.now c.args.ranking c.args.recce.now) start c.grow.new.steps n
    (rises_of (IsGivenIn c.args.w.now c.args.ranking c.args.recce.now) (IsExpandedIn c.args.w.now c.args.ranking c.args.recce.now) start c.grow.new.steps (λ p h. h.0)
    (rises_after c.args.w.now c.args.ranking c.args.recce.now c.args.given.now c.known.ensures c.requires.given start c.args.steps.now c.grow.new.steps begun c.grow.ensures.counted)) all

pub returns-in_err-grow-clause-needed : goal.returns-in_err-grow-clause-needed
returns-in_err-grow-clause-needed g c start n begun all =
    rises_most (IsHiddenNode c.args.w.now c.args.recce.now) start c.grow.new.steps n
    (rises_of (IsGivenIn c.args.w.now c.args.ranking c.args.recce.now) (IsHiddenNode c.args.w.now c.args.recce.now) start c.grow.new.steps (λ p (expanded, (node, below)). node)
    (rises_after c.args.w.now c.args.ranking c.args.recce.now c.args.given.now c.known.ensures c.requires.given start c.args.steps.now c.grow.new.steps begun c.grow.ensures.counted)) all

pub returns-then-not-at_end-clause-given : goal.returns-then-not-at_end-clause-given
returns-then-not-at_end-clause-given g c = (rises_none (IsGivenAfter c.args.w.now c.args.ranking c.args.recce.now c.args.given.now) c.args.steps.now)

pub returns-then-not-at_end-clause-after : goal.returns-then-not-at_end-clause-after
returns-then-not-at_end-clause-after g c start begun =
    rises_after c.args.w.now c.args.ranking c.args.recce.now c.args.given.now c.known.ensures c.requires.given start c.args.steps.now c.args.steps.now begun (rises_none (IsGivenAfter c.args.w.now c.args.ranking c.args.recce.now c.args.given.now) c.args.steps.now)

pub returns-then-not-at_end-clause-counted : goal.returns-then-not-at_end-clause-counted
returns-then-not-at_end-clause-counted g c start n begun all =
    rises_most (IsExpandedIn c.args.w.now c.args.ranking c.args.recce.now) start c.args.steps.now n
    (rises_of (IsGivenIn c.args.w.now c.args.ranking c.args.recce.now) (IsExpandedIn c.args.w.now c.args.ranking c.args.recce.now) start c.args.steps.now (λ p h. h.0)
    (rises_after c.args.w.now c.args.ranking c.args.recce.now c.args.given.now c.known.ensures c.requires.given start c.args.steps.now c.args.steps.now begun (rises_none (IsGivenAfter c.args.w.now c.args.ranking c.args.recce.now c.args.given.now) c.args.steps.now))) all

pub returns-then-not-at_end-clause-needed : goal.returns-then-not-at_end-clause-needed
returns-then-not-at_end-clause-needed g c start n begun all =
    rises_most (IsHiddenNode c.args.w.now c.args.recce.now) start c.args.steps.now n
    (rises_of (IsGivenIn c.args.w.now c.args.ranking c.args.recce.now) (IsHiddenNode c.args.w.now c.args.recce.now) start c.args.steps.now (λ p (expanded, (node, below)). node)
    (rises_after c.args.w.now c.args.ranking c.args.recce.now c.args.given.now c.known.ensures c.requires.given start c.args.steps.now c.args.steps.now begun (rises_none (IsGivenAfter c.args.w.now c.args.ranking c.args.recce.now c.args.given.now) c.args.steps.now))) all

pub returns-in_err-grow-clause-forest : goal.returns-in_err-grow-clause-forest
returns-in_err-grow-clause-forest g c = IfOk-from_err _ _ c.from_residual.ensures.0

pub returns-in_err-grow-clause-reading : goal.returns-in_err-grow-clause-reading
returns-in_err-grow-clause-reading g c = IfOk-from_err _ _ c.from_residual.ensures.0

pub grow-requires-clause-checked : goal.grow-requires-clause-checked
grow-requires-clause-checked g c = c.requires.checked

pub grow-requires-clause-flat : goal.grow-requires-clause-flat
grow-requires-clause-flat g c = c.requires.flat

pub grow-requires-clause-given : goal.grow-requires-clause-given
grow-requires-clause-given g c = c.requires.given

pub returns-clause-forest : goal.returns-clause-forest
returns-clause-forest g c = c.in_ok-grow.ensures.forest

pub returns-clause-reading : goal.returns-clause-reading
returns-clause-reading g c = c.in_ok-grow.ensures.reading
