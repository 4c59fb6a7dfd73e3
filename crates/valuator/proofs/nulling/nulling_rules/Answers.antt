use Rattle.std.proofs.Common.{◌+◌, ◌<◌, ◌∙◌, length, set, arith, sym, subst}
use Rattle.valuator.specs.Nulling.{AreFirst}
use Rattle.valuator.proofs.Firsts.{more_first}
use Rattle.valuator.proofs.nulling.nulling_rules.Goals as goal

pub index-requires : goal.index-requires
index-requires c = omega (arith, c.loop-i.rules.ok, c.loop-i.invariant.0, c.symbol.view_is, c.lhs.ensures.known)

pub index_mut-requires : goal.index_mut-requires
index_mut-requires c = omega (arith, c.loop-i.rules.ok, c.loop-i.invariant.0, c.symbol.view_is, c.lhs.ensures.known)

pub loop-i-preserved : goal.loop-i-preserved
loop-i-preserved c =
    let inside : c.symbol.inside.0 < length c.loop-i.rules.items = omega (arith, c.loop-i.invariant.0, c.symbol.view_is, c.lhs.ensures.known) in
    subst (λ first. AreFirst c.args.w.now (c.loop-i.i + 1) (set c.loop-i.rules.items c.symbol.inside.0 first)) (sym c.first_of.ensures)
    (more_first c.args.w.now c.loop-i.i c.symbol.inside.0 _ c.loop-i.rules.items c.index.result.now c.rule.ensures.is (c.symbol.view_is ∙ c.lhs.ensures.is) inside c.index.ensures c.loop-i.invariant)
