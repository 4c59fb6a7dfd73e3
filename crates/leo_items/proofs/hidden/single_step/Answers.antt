use Rattle.std.proofs.Common.{◌<◌, sym, subst, arith, length}
use Rattle.recognizer_model.specs.declared.Pair.{Pair}
use Rattle.leo_items.proofs.hidden.single_step.Goals as goal

pub step_in-requires-clause-set : goal.step_in-requires-clause-set
step_in-requires-clause-set c = subst (λ (p : Pair). p.set < length c.args.rows.now.sets) (sym c.pair_above.ensures) (let lt = c.if-item-earleme.false in let le = c.requires.earleme in omega arith)
