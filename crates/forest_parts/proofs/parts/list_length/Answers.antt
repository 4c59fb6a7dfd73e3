use Rattle.std.proofs.Common.{◌<◌, ◌∙◌, ℕ, List, length, sym, ap, subst}
use Rattle.forest_parts.proofs.Sources.{length_by, no_length}
use Rattle.forest_parts.proofs.parts.list_length.Goals as goal

pub symbol-requires : goal.symbol-requires
symbol-requires c = subst (λ n. n < length c.args.flat.now.symbols) (sym c.lhs.ensures) (c.known.ensures.flat.in_range.left c.args.rule c.requires)

pub returns-in-Sequence : goal.returns-in-Sequence
returns-in-Sequence c = ap (λ (l : List ℕ). length l) c.rhs.ensures ∙ length_by c.args.flat.now c.args.rule c.lhs.result _ c.lhs.ensures c.in-Sequence.ensures

pub returns-in_default : goal.returns-in_default
returns-in_default c = no_length c.args.flat.now c.args.rule c.lhs.result c.symbol.result c.lhs.ensures c.symbol.ensures c.in_default.not-Sequence
