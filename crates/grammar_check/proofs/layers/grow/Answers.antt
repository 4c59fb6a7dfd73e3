use Rattle.std.proofs.Common.{arith, ◌≡◌, ◌+◌, ap, ◌∙◌, slice_index, get_or}
use Rattle.std.proofs.lemmas.List.{get_or_append_left}
use Rattle.grammar_check.specs.Links.{Step, StepsInto}
use Rattle.grammar_check.proofs.Gaining.{gains_both, gains_same, into_more}
use Rattle.grammar_check.proofs.layers.grow.Goals as goal

pub loop-j-preserved : goal.loop-j-preserved
loop-j-preserved c =
    let t = get_or c.as_slice.result.now c.loop-j.j 0 in
    let old = c.args.found.now in
    let is : t ≡ slice_index old c.loop-j.j = ap (λ l. get_or l c.loop-j.j 0) (c.as_slice.ensures ∙ c.loop-j.invariant.gains.extends) ∙ get_or_append_left old c.loop-j.invariant.gains.more 0 c.loop-j.j (omega (arith, c.loop-j-test.true, c.loop-j.auto.j-end, c.requires.within, c.requires.order)) in
    record {
      gains = gains_same old c.spread.new.found _ (StepsInto c.args.rows.now c.args.floors.now old c.args.from (c.loop-j.j + 1))
          (into_more c.args.rows.now c.args.floors.now old c.args.from c.loop-j.j old c.spread.new.found t c.loop-j.auto.j is)
          (gains_both old c.loop-j.found c.spread.new.found (StepsInto c.args.rows.now c.args.floors.now old c.args.from c.loop-j.j) (λ x. Step c.args.rows.now c.args.floors.now x t) c.loop-j.invariant.gains c.in_ok-spread.ensures.gains);
      down = c.in_ok-spread.ensures.down;
    }
