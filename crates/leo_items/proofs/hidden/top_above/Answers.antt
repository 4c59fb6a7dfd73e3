use Rattle.std.proofs.Common.{◌<◌, ◌∙◌, sym, subst, arith, length}
use Rattle.recognizer_model.specs.declared.Pair.{Pair}
use Rattle.leo_items.specs.ByRows.{LeadsIn}
use Rattle.leo_items.proofs.hidden.top_above.Goals as goal

pub step_in-requires-clause-set : goal.step_in-requires-clause-set
step_in-requires-clause-set c = subst (λ (p : Pair). p.set < length c.args.rows.now.sets) (sym c.pair_above-pair.ensures) (let lt = c.if-item-earleme.false in let le = c.requires.earleme in omega arith)

pub returns-in-Some-clause-some : goal.returns-in-Some-clause-some
returns-in-Some-clause-some c = (
  let lt = c.if-item-earleme.false in omega arith,
  subst (λ (p : Pair). LeadsIn c.args.flat.now c.args.rows.now.sets p.set p.symbol c.in-Some.top) c.pair_above-pair.ensures
      (c.requires.memo.leads c.pair_above-pair.result c.in-Some.top (sym c.get.ensures ∙ c.in-Some.is)).1,
)
