use Rattle.std.proofs.Common.{inl, inr, subst}
use Rattle.std.proofs.lemmas.Result.{IfOk-weaker}
use Rattle.glade_laws.specs.Walks.{HasSecond}
use Rattle.glade_laws.proofs.Choosing.{only_or_second}
use Rattle.glades.proofs.report.other_shape.Goals as goal

pub second_shape-requires-clause-second : goal.second_shape-requires-clause-second
second_shape-requires-clause-second c = subst (HasSecond c.args.forest.now c.args.node) c.if-has_second.true c.has_second.ensures.second

pub returns-then-has_second-clause-shape : goal.returns-then-has_second-clause-shape
returns-then-has_second-clause-shape c = IfOk-weaker c.second_shape.result _ _ (λ shape h. inl h) c.second_shape.ensures.shape

pub first_shape-requires-clause-node : goal.first_shape-requires-clause-node
first_shape-requires-clause-node c = (c.requires.next c.in-Some.next c.in-Some.is).0

pub first_shape-requires-clause-rule : goal.first_shape-requires-clause-rule
first_shape-requires-clause-rule c = (c.requires.next c.in-Some.next c.in-Some.is).1

pub returns-clause-shape : goal.returns-clause-shape
returns-clause-shape c =
    IfOk-weaker c.first_shape.result _ _ (λ shape (comes, walk). inr (c.in-Some.next, c.in-Some.is, subst (HasSecond c.args.forest.now c.args.node) c.if-has_second.false c.has_second.ensures.second, comes, walk)) c.first_shape.ensures.shape

pub unreachable-requires : goal.unreachable-requires
unreachable-requires c =
    let (s, only) = subst (HasSecond c.args.forest.now c.args.node) c.if-has_second.false c.has_second.ensures.second in
    let (t, u, second) = c.requires.two c.in-None.is in
    only_or_second c.args.forest.now c.args.node s t u only second
