use Rattle.std.proofs.Common.{◌<◌, length, ◌-◌}
use Rattle.std.proofs.Common.{sym, subst}
use Rattle.tree_iter.proofs.GoalLemmas.{key_sound}
use Rattle.tree_iter.proofs.goals.cause_symbol.Goals as goal

-- src/goals.rt:70:5
pub rhs-requires : goal.rhs-requires
rhs-requires c = (key_sound c.args.forest.now c.known.ensures c.args.node c.requires c.flat.result.now c.flat.ensures c.key-key.result c.key-key.ensures.value).rule

-- src/goals.rt:70:33
pub overflow_sub-result : goal.overflow_sub-result
overflow_sub-result c = (key_sound c.args.forest.now c.known.ensures c.args.node c.requires c.flat.result.now c.flat.ensures c.key-key.result c.key-key.ensures.value).some

-- src/goals.rt:70:5
pub bounds-rhs-key : goal.bounds-rhs-key
bounds-rhs-key c = subst (λ l. c.key-key.result.dot - 1 < length l) (sym c.rhs.ensures) ((key_sound c.args.forest.now c.known.ensures c.args.node c.requires c.flat.result.now c.flat.ensures c.key-key.result c.key-key.ensures.value).place)
