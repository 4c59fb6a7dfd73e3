use Rattle.std.proofs.Common.{None, [], ◌+◌, List, take, sym, subst, arith}
use Rattle.std.specs.declared.vec.Vec.{Vec}
use Rattle.std.specs.declared.alloc.Global.{Global}
use Rattle.std.proofs.lemmas.List.Elements.{Contains-get_or}
use Rattle.std.proofs.lemmas.List.{take_all}
use Rattle.recognizer_model.specs.declared.thread.Thread.{Thread}
use Rattle.threads.specs.Steps.{Keeps}
use Rattle.threads.proofs.Parts.{keeps_none, keeps_more, keeps_skip}
use Rattle.threads.proofs.row.list_kept.Goals.{then-is_kept+in_ok-push, else-is_kept}
use Rattle.threads.proofs.row.list_kept.Goals as goal

pub is_kept-requires : goal.is_kept-requires
is_kept-requires c = c.requires _ (Contains-get_or c.args.set.now c.loop-thread.thread-index (record { rule = 0; dot = 0; label = None }) (omega arith))

pub loop-thread-init : goal.loop-thread-init
loop-thread-init c = subst (λ (l : List Thread). Keeps c.args.flat.now [] l) (sym c.clear.ensures.items) (keeps_none c.args.flat.now [])

pub loop-thread-preserved : goal.loop-thread-preserved
loop-thread-preserved c =
    let g = c.args.flat.now in
    let set = c.args.set.now in
    let i = c.loop-thread.thread-index in
    let mid = c.loop-thread.row.items in
    let lt = c.loop-thread-test.true in
    elim c.if-is_kept.branch [
      | then-is_kept+in_ok-push w ↦
          subst (λ (v : Vec Thread Global). Keeps g (take (i + 1) set) v.items) (sym w.row-is)
          (keeps_more g set i (record { rule = 0; dot = 0; label = None }) lt mid c.loop-thread.invariant (c.is_kept.ensures.0 w.if-is_kept.true) w.push.new.self.items w.in_ok-push.ensures.items)
      | else-is_kept w ↦
          subst (λ (v : Vec Thread Global). Keeps g (take (i + 1) set) v.items) (sym w.row-is)
          (keeps_skip g set i (record { rule = 0; dot = 0; label = None }) lt mid c.loop-thread.invariant (λ k. let t = c.is_kept.ensures.1 k in let f = w.if-is_kept.false in absurd (cc)))
    ]

pub returns : goal.returns
returns c = subst (λ l. Keeps c.args.flat.now l c.loop-thread.row.items) (take_all c.loop-thread.thread-index c.args.set.now c.loop-thread-test.false) c.loop-thread.invariant
