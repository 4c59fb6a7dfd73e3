use Rattle.std.proofs.Common.{[], ◌∷◌, ◌++◌, ◌+◌, arith, sym, ◌∙◌, ap}
use Rattle.dsl_faults.proofs.Lists.{count_more}
use Rattle.dsl_build.proofs.sets.numbers_from.Goals as goal

pub loop-k-preserved : goal.loop-k-preserved
loop-k-preserved c =
    let number = c.args.from + c.loop-k.k in
    c.in_ok-push.ensures.items ∙ ap (λ ns. ns ++ number ∷ []) c.loop-k.invariant ∙ sym (count_more c.args.from c.loop-k.k number (omega arith))
