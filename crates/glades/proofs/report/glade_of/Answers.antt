use Rattle.std.proofs.Common.{◌-◌, arith}
use Rattle.std.proofs.lemmas.Result.{IfOk-from_err}
use Rattle.glades.proofs.Heading.{two_within}
use Rattle.glades.proofs.Reporting.{rule_there, next_there, next_none, glade_is}
use Rattle.glades.proofs.report.glade_of.Goals as goal

pub first_shape-requires-clause-node : goal.first_shape-requires-clause-node
first_shape-requires-clause-node c = two_within c.args.forest.now c.known.ensures c.requires.links.by_rules c.args.head.node _ _ _ c.requires.head.is_two

pub first_shape-requires-clause-rule : goal.first_shape-requires-clause-rule
first_shape-requires-clause-rule c = rule_there c.args.forest.now c.known.ensures c.requires.links.by_rules c.args.head.node _ _ _ c.requires.head.is_two

pub other_shape-requires-clause-node : goal.other_shape-requires-clause-node
other_shape-requires-clause-node c = two_within c.args.forest.now c.known.ensures c.requires.links.by_rules c.args.head.node _ _ _ c.requires.head.is_two

pub other_shape-requires-clause-rule : goal.other_shape-requires-clause-rule
other_shape-requires-clause-rule c = rule_there c.args.forest.now c.known.ensures c.requires.links.by_rules c.args.head.node _ _ _ c.requires.head.is_two

pub other_shape-requires-clause-next : goal.other_shape-requires-clause-next
other_shape-requires-clause-next c = next_there c.args.forest.now c.known.ensures c.requires.links.by_rules c.args.head.node _ _ _ c.requires.head.is_two c.args.next c.requires.next

pub other_shape-requires-clause-two : goal.other_shape-requires-clause-two
other_shape-requires-clause-two c = next_none c.args.forest.now c.known.ensures c.requires.links.by_rules c.args.head.node _ _ _ c.requires.head.is_two c.args.next c.requires.next

pub returns-clause-glade : goal.returns-clause-glade
returns-clause-glade c =
    let sum = c.requires.head.back in
    let (source, walk) = c.in_ok-first.ensures.shape in
    glade_is c.args.forest.now c.known.ensures c.requires.links.by_rules c.args.head c.requires.head c.args.next c.requires.next (4294967295 - c.args.head.back) (omega (arith, sum))
    c.in_ok-first.first c.in_ok-second.second source walk c.in_ok-second.ensures.shape

pub returns-in_err-first-clause-glade : goal.returns-in_err-first-clause-glade
returns-in_err-first-clause-glade c = IfOk-from_err _ _ c.from_residual.ensures.0

pub returns-in_err-second-clause-glade : goal.returns-in_err-second-clause-glade
returns-in_err-second-clause-glade c = IfOk-from_err _ _ c.from_residual-in_err-second.ensures.0
