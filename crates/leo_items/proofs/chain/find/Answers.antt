use Rattle.std.proofs.Common.{rules, arith, ◌<◌, ◌∙◌, sym, subst, length, ◌≡◌, Some, None}
use Rattle.recognizer_model.specs.declared.Pair.{Pair}
use Rattle.leo_items.specs.ByRows.{IsStepIn, IsNotLeoIn, LeadsIn}
use Rattle.recognizer_model.specs.Flat.{lhs_of}
use Rattle.leo_items.proofs.Chains.{passed_first, passed_on}
use Rattle.leo_items.proofs.Falling.{far_bound, step_falls, symbol_there}
use Rattle.leo_items.specs.Memo.{noted}
use Rattle.leo_items.specs.Ways.{Ends, Noted}
use Rattle.leo_items.proofs.Ways.{from_first, from_next, from_last}
use Rattle.leo_items.proofs.chain.find.Goals as goal

pub loop-walked-init : goal.loop-walked-init
loop-walked-init c = record {
  passed = λ are. passed_first c.args.flat.now c.args.rows.now.sets are c.args.pair.set c.args.pair.symbol c.args.step c.requires.set c.requires.step;
  way = from_first c.args.flat.now c.args.rows.now.sets c.args.memo.now c.args.step;
  short = λ flat. (
      let (item, leo, same) = c.requires.step in
      let falls = step_falls c.args.flat.now flat c.args.rows.now.sets c.requires.rows.are c.requires.nulled c.args.pair.set c.args.pair.symbol c.args.step c.requires.step in
      let bound = far_bound c.args.flat.now flat c.args.pair.set c.args.pair.symbol (search rules) (symbol_there c.args.flat.now flat c.args.rows.now.sets c.requires.rows.are c.requires.nulled c.args.pair.set c.args.pair.symbol item leo) in
      omega (arith, falls, bound));
}

pub pair_above-above-requires : goal.pair_above-above-requires
pair_above-above-requires c = (c.loop-walked.invariant.passed c.requires.rows.are).rule

pub step_in-requires-clause-set : goal.step_in-requires-clause-set
step_in-requires-clause-set c = subst (λ (p : Pair). p.set < length c.args.rows.now.sets) (sym c.pair_above-above.ensures) (c.loop-walked.invariant.passed c.requires.rows.are).inside

pub returns-in-Some-clause-leads : goal.returns-in-Some-clause-leads
returns-in-Some-clause-leads c =
    let (lt, leads) = c.requires.memo.leads c.pair_above-above.result c.in-Some.found (sym c.get.ensures ∙ c.in-Some.is) in
    (c.loop-walked.invariant.passed c.requires.rows.are).on c.in-Some.found (subst (λ (p : Pair). LeadsIn c.args.flat.now c.args.rows.now.sets p.set p.symbol c.in-Some.found) c.pair_above-above.ensures leads)

pub returns-in-Some-clause-way : goal.returns-in-Some-clause-way
returns-in-Some-clause-way c =
    from_last c.args.flat.now c.args.rows.now.sets c.args.memo.now c.args.step c.loop-walked.walked c.loop-walked.top c.in-Some.found c.loop-walked.invariant.way
    (Noted (subst (λ p. noted c.args.memo.now p ≡ Some c.in-Some.found) c.pair_above-above.ensures (sym c.get.ensures ∙ c.in-Some.is)))

pub loop-walked-preserved : goal.loop-walked-preserved
loop-walked-preserved c =
    let next = subst (λ (p : Pair). IsStepIn c.args.flat.now c.args.rows.now.sets p.set p.symbol (Some c.in-Some-step_in.next)) c.pair_above-above.ensures c.in-Some-step_in.ensures in
    record {
      passed = λ are. passed_on c.args.flat.now c.args.rows.now.sets are c.args.pair.set c.args.pair.symbol c.loop-walked.top c.in-Some-step_in.next (c.loop-walked.invariant.passed are) next;
      way = from_next c.args.flat.now c.args.rows.now.sets c.args.memo.now c.args.step c.loop-walked.walked c.loop-walked.top c.in-Some-step_in.next c.loop-walked.invariant.way
          (subst (λ p. noted c.args.memo.now p ≡ None) c.pair_above-above.ensures (sym c.get.ensures ∙ c.in_default.is)) next;
      short = λ flat. (
          let falls = step_falls c.args.flat.now flat c.args.rows.now.sets c.requires.rows.are c.requires.nulled c.loop-walked.top.origin (lhs_of c.args.flat.now c.loop-walked.top.rule) c.in-Some-step_in.next next in
          let before = c.loop-walked.invariant.short flat in
          omega (arith, falls, before));
    }

pub returns-in-None-clause-leads : goal.returns-in-None-clause-leads
returns-in-None-clause-leads c = (c.loop-walked.invariant.passed c.requires.rows.are).here (subst (λ (p : Pair). IsNotLeoIn c.args.flat.now c.args.rows.now.sets p.set p.symbol) c.pair_above-above.ensures c.in-None.ensures)

pub returns-in-None-clause-way : goal.returns-in-None-clause-way
returns-in-None-clause-way c =
    from_last c.args.flat.now c.args.rows.now.sets c.args.memo.now c.args.step c.loop-walked.walked c.loop-walked.top c.loop-walked.top c.loop-walked.invariant.way
    (Ends (subst (λ p. noted c.args.memo.now p ≡ None) c.pair_above-above.ensures (sym c.get.ensures ∙ c.in_default.is))
    (subst (λ (p : Pair). IsNotLeoIn c.args.flat.now c.args.rows.now.sets p.set p.symbol) c.pair_above-above.ensures c.in-None.ensures))

pub unreachable-requires : goal.unreachable-requires
unreachable-requires c = let b = c.loop-walked.invariant.short c.known.ensures.flat in let end = c.loop-walked-test.false in omega (arith, b, end)
