use Rattle.std.proofs.Common.{arith, ◌+◌, slice_index}
use Rattle.grammar_check.specs.Links.{Tied}
use Rattle.grammar_check.proofs.Gaining.{gains_none, gains_both, gains_same, TiedTo, tied_more, tied_all}
use Rattle.grammar_check.proofs.layers.gather.Goals as goal

pub loop-h-init : goal.loop-h-init
loop-h-init c = record { gains = gains_none c.args.found.now (TiedTo c.args.floors.now c.args.row.now 0) (λ x (i, lt, t). omega (arith, lt)); down = c.requires.down }

pub loop-h-preserved : goal.loop-h-preserved
loop-h-preserved c = record {
  gains = gains_same c.args.found.now c.descend.new.found _ (TiedTo c.args.floors.now c.args.row.now (c.loop-h.h-index + 1)) (tied_more c.args.floors.now c.args.row.now c.loop-h.h-index)
      (gains_both c.args.found.now c.loop-h.found c.descend.new.found (TiedTo c.args.floors.now c.args.row.now c.loop-h.h-index) (λ x. Tied c.args.floors.now x (slice_index c.args.row.now c.loop-h.h-index)) c.loop-h.invariant.gains c.in_ok-descend.ensures.gains);
  down = c.in_ok-descend.ensures.down;
}

pub returns-clause-gains : goal.returns-clause-gains
returns-clause-gains c = gains_same c.args.found.now c.loop-h.found (TiedTo c.args.floors.now c.args.row.now c.loop-h.h-index) _
    (λ x. tied_all c.args.floors.now c.args.row.now c.loop-h.h-index x (omega (arith, c.loop-h-test.false, c.loop-h.auto.h-index-end))) c.loop-h.invariant.gains
