use Rattle.std.proofs.Common.{◌≡◌, ◌++◌, ◌∷◌, [], None, ◌+◌, List, Contains, take, get_or, sym, subst}
use Rattle.std.specs.declared.vec.Vec.{Vec}
use Rattle.std.specs.declared.alloc.Global.{Global}
use Rattle.std.proofs.lemmas.List.Elements.{Contains-get_or}
use Rattle.std.proofs.lemmas.List.{take_all}
use Rattle.recognizer_model.specs.declared.thread.Thread.{Thread}
use Rattle.threads.proofs.Closing.{CompletedTo, completed_none, completed_more, completed_skip, completed_done}
use Rattle.threads.proofs.close.list_completed.Goals.{then-waits_for+in_ok-push, else-waits_for}
use Rattle.threads.proofs.close.list_completed.Goals as goal

pub waits_for-requires : goal.waits_for-requires
waits_for-requires c = (c.requires.parts c.args.label.part (get_or c.args.part.now c.loop-thread.thread-index (record { rule = 0; dot = 0; label = None })) (subst (λ (l : List Thread). Contains l (get_or c.args.part.now c.loop-thread.thread-index (record { rule = 0; dot = 0; label = None }))) c.requires.part (Contains-get_or c.args.part.now c.loop-thread.thread-index (record { rule = 0; dot = 0; label = None }) c.loop-thread-test.true))).is_rule

pub label_in_part-behind-requires-clause-thread : goal.label_in_part-behind-requires-clause-thread
label_in_part-behind-requires-clause-thread c = c.requires.parts c.args.label.part (get_or c.args.part.now c.loop-thread.thread-index (record { rule = 0; dot = 0; label = None })) (subst (λ (l : List Thread). Contains l (get_or c.args.part.now c.loop-thread.thread-index (record { rule = 0; dot = 0; label = None }))) c.requires.part (Contains-get_or c.args.part.now c.loop-thread.thread-index (record { rule = 0; dot = 0; label = None }) c.loop-thread-test.true))

pub loop-thread-init : goal.loop-thread-init
loop-thread-init c = completed_none c.args.flat.now c.args.parts.now c.args.label c.args.next.now.items

pub loop-thread-preserved : goal.loop-thread-preserved
loop-thread-preserved c =
    let g = c.args.flat.now in
    let parts = c.args.parts.now in
    let l = c.args.label in
    let part = c.args.part.now in
    let i = c.loop-thread.thread-index in
    let old = c.args.next.now.items in
    let mid = c.loop-thread.next.items in
    let lt = c.loop-thread-test.true in
    elim c.if-waits_for.branch [
      | then-waits_for+in_ok-push w ↦
          subst (λ (v : Vec Thread Global). CompletedTo g parts l old (take (i + 1) part) v.items) (sym w.next-is)
          (completed_more g parts l old part c.requires.part i (record { rule = 0; dot = 0; label = None }) lt mid c.loop-thread.invariant w.push.new.self.items w.label_in_part-behind.result (c.waits_for.ensures.waits.0 w.if-waits_for.true)
          w.label_in_part-behind.ensures.leaves
          (c.requires.parts l.part (get_or part i (record { rule = 0; dot = 0; label = None })) (subst (λ (z : List Thread). Contains z (get_or part i (record { rule = 0; dot = 0; label = None }))) c.requires.part (Contains-get_or part i (record { rule = 0; dot = 0; label = None }) lt)))
          w.label_in_part-behind.ensures.there
          (subst (λ z. w.push.new.self.items ≡ mid ++ z ∷ []) w.advanced.ensures w.in_ok-push.ensures.items))
      | else-waits_for w ↦
          subst (λ (v : Vec Thread Global). CompletedTo g parts l old (take (i + 1) part) v.items) (sym w.next-is)
          (completed_skip g parts l old part c.requires.part i (record { rule = 0; dot = 0; label = None }) lt mid c.loop-thread.invariant (λ e. let t = c.waits_for.ensures.waits.1 e in let f = w.if-waits_for.false in absurd (cc)))
    ]

pub returns : goal.returns
returns c =
    completed_done c.args.flat.now c.args.parts.now c.args.label c.args.next.now.items c.args.part.now c.loop-thread.next.items c.requires.part
    (subst (λ z. CompletedTo c.args.flat.now c.args.parts.now c.args.label c.args.next.now.items z c.loop-thread.next.items) (take_all c.loop-thread.thread-index c.args.part.now c.loop-thread-test.false) c.loop-thread.invariant)
