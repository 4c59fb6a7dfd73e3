use Rattle.std.proofs.Common.{◌+◌, None, take, sym, subst, arith}
use Rattle.std.proofs.lemmas.List.Elements.{Contains-get_or}
use Rattle.std.proofs.lemmas.List.{take_all}
use Rattle.threads.proofs.Folding.{OnlyIn, only_none, only_skip, only_first, only_done, none_of}
use Rattle.threads.proofs.fold.only_waiting.Goals.{then-waits_for+else-is_some, else-waits_for}
use Rattle.threads.proofs.fold.only_waiting.Goals as goal

pub waits_for-requires : goal.waits_for-requires
waits_for-requires c = c.requires _ (Contains-get_or c.args.row.now c.loop-thread.thread-index (record { rule = 0; dot = 0; label = None }) (omega arith))

pub loop-thread-init : goal.loop-thread-init
loop-thread-init c = only_none c.args.flat.now c.args.row.now c.args.symbol

pub loop-thread-preserved : goal.loop-thread-preserved
loop-thread-preserved c =
    let g = c.args.flat.now in
    let row = c.args.row.now in
    let i = c.loop-thread.thread-index in
    elim c.if-waits_for.branch [
      | then-waits_for+else-is_some w ↦
          subst (λ f. OnlyIn g row c.args.symbol f (take (i + 1) row)) (sym w.found-is)
          (only_first g row c.args.symbol c.loop-thread.found i (record { rule = 0; dot = 0; label = None }) c.loop-thread-test.true c.loop-thread.invariant (none_of c.loop-thread.found (let a = w.is_some.ensures in let b = w.if-is_some.false in cc)) (c.waits_for.ensures.waits.0 w.if-waits_for.true))
      | else-waits_for w ↦
          subst (λ f. OnlyIn g row c.args.symbol f (take (i + 1) row)) (sym w.found-is)
          (only_skip g row c.args.symbol c.loop-thread.found i (record { rule = 0; dot = 0; label = None }) c.loop-thread-test.true c.loop-thread.invariant (λ e. let t = c.waits_for.ensures.waits.1 e in let f = w.if-waits_for.false in absurd (cc)))
    ]

pub returns : goal.returns
returns c = only_done c.args.flat.now c.args.row.now c.args.symbol c.loop-thread.found (subst (OnlyIn c.args.flat.now c.args.row.now c.args.symbol c.loop-thread.found) (take_all c.loop-thread.thread-index c.args.row.now c.loop-thread-test.false) c.loop-thread.invariant)
