use Rattle.std.proofs.Common.{◌<◌, length, sym, subst}
use Rattle.flat_steps.proofs.Written.{list_by, no_list_by}
use Rattle.flat_steps.proofs.writing.is_list_rule.Goals as goal

pub symbol-requires : goal.symbol-requires
symbol-requires c = subst (λ x. x < length c.args.flat.now.symbols) (sym c.lhs.ensures) (c.known.ensures.flat.in_range.left c.args.rule c.requires)

pub returns-in-Sequence : goal.returns-in-Sequence
returns-in-Sequence c = list_by c.args.flat.now c.args.rule c.lhs.result _ c.lhs.ensures c.in-Sequence.ensures

pub returns-in_default : goal.returns-in_default
returns-in_default c = no_list_by c.args.flat.now c.args.rule c.lhs.result c.symbol.result c.lhs.ensures c.symbol.ensures c.in_default.not-Sequence
