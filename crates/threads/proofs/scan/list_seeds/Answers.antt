use Rattle.std.proofs.Common.{◌≡◌, ◌++◌, ◌∷◌, [], None, ◌+◌, List, length, take, subst, sym, arith}
use Rattle.std.specs.declared.vec.Vec.{Vec}
use Rattle.std.specs.declared.alloc.Global.{Global}
use Rattle.std.proofs.lemmas.List.Elements.{Contains-get_or}
use Rattle.std.proofs.lemmas.List.{take_all}
use Rattle.recognizer_model.specs.declared.thread.Thread.{Thread}
use Rattle.threads.proofs.Parts.{grown_on, grown_long, threads_later, ScannedTo, scanned_none, scanned_more, scanned_skip}
use Rattle.threads.proofs.scan.list_seeds.Goals.{then-is_read+in_ok-label+in_ok-push, else-is_read}
use Rattle.threads.proofs.scan.list_seeds.Goals as goal

pub is_read-requires : goal.is_read-requires
is_read-requires c = (c.requires.row _ (Contains-get_or c.args.row.now c.loop-thread.thread-index (record { rule = 0; dot = 0; label = None }) (omega arith))).is_rule

pub label_behind-requires-clause-row : goal.label_behind-requires-clause-row
label_behind-requires-clause-row c = threads_later c.args.flat.now (length c.args.parts.now) (length c.loop-thread.parts) c.args.row.now (grown_long c.args.parts.now c.loop-thread.parts c.loop-thread.invariant.grown) c.requires.row

pub label_behind-requires-clause-thread : goal.label_behind-requires-clause-thread
label_behind-requires-clause-thread c =
    threads_later c.args.flat.now (length c.args.parts.now) (length c.loop-thread.parts) c.args.row.now (grown_long c.args.parts.now c.loop-thread.parts c.loop-thread.invariant.grown) c.requires.row _ (Contains-get_or c.args.row.now c.loop-thread.thread-index (record { rule = 0; dot = 0; label = None }) (omega arith))

pub loop-thread-init : goal.loop-thread-init
loop-thread-init c = scanned_none c.args.flat.now c.args.parts.now c.args.terminals.now c.args.row.now c.requires.parts c.clear.new.self.items c.clear.ensures.items

pub loop-thread-preserved : goal.loop-thread-preserved
loop-thread-preserved c =
    let g = c.args.flat.now in
    let old = c.args.parts.now in
    let ts = c.args.terminals.now in
    let row = c.args.row.now in
    let i = c.loop-thread.thread-index in
    let mid = c.loop-thread.seeds.items in
    let lt = c.loop-thread-test.true in
    elim c.if-is_read.branch [
      | then-is_read+in_ok-label+in_ok-push w ↦
          subst (λ (p : List (List Thread)). ScannedTo g old ts row (take (i + 1) row) p c.if-is_read.seeds.items) (sym w.parts-is)
          (subst (λ (v : Vec Thread Global). ScannedTo g old ts row (take (i + 1) row) w.label_behind.new.parts v.items) (sym w.seeds-is)
          (scanned_more g old ts row i (record { rule = 0; dot = 0; label = None }) lt c.loop-thread.parts mid c.loop-thread.invariant (c.requires.row _ (Contains-get_or row i (record { rule = 0; dot = 0; label = None }) lt)) (Contains-get_or row i (record { rule = 0; dot = 0; label = None }) lt) (c.is_read.ensures.read.0 w.if-is_read.true)
          w.label_behind.new.parts w.in_ok-label.label w.in_ok-label.ensures.grown w.in_ok-label.ensures.parts w.in_ok-label.ensures.there w.in_ok-label.ensures.leaves w.push.new.self.items
          (subst (λ z. w.push.new.self.items ≡ mid ++ z ∷ []) w.advanced.ensures w.in_ok-push.ensures.items)))
      | else-is_read w ↦
          subst (λ (p : List (List Thread)). ScannedTo g old ts row (take (i + 1) row) p c.if-is_read.seeds.items) (sym w.parts-is)
          (subst (λ (v : Vec Thread Global). ScannedTo g old ts row (take (i + 1) row) c.loop-thread.parts v.items) (sym w.seeds-is)
          (scanned_skip g old ts row i (record { rule = 0; dot = 0; label = None }) lt c.loop-thread.parts mid c.loop-thread.invariant (λ r. let t = c.is_read.ensures.read.1 r in let f = w.if-is_read.false in absurd (cc))))
    ]

pub returns-clause-seeds : goal.returns-clause-seeds
returns-clause-seeds c = (subst (λ l. ScannedTo c.args.flat.now c.args.parts.now c.args.terminals.now c.args.row.now l c.loop-thread.parts c.loop-thread.seeds.items) (take_all c.loop-thread.thread-index c.args.row.now c.loop-thread-test.false) c.loop-thread.invariant).seeds

pub label_behind-requires-clause-order : goal.label_behind-requires-clause-order
label_behind-requires-clause-order c none =
    let (x, e, reads) = c.is_read.ensures.read.0 c.if-is_read.true in
    c.requires.order _ x (Contains-get_or c.args.row.now c.loop-thread.thread-index (record { rule = 0; dot = 0; label = None }) (omega arith)) none e reads

pub returns-in_err-label-clause-grown : goal.returns-in_err-label-clause-grown
returns-in_err-label-clause-grown c = grown_on c.args.parts.now c.loop-thread.parts c.label_behind.new.parts c.loop-thread.invariant.grown c.in_err-label.ensures.grown

pub returns-in_err-push-clause-grown : goal.returns-in_err-push-clause-grown
returns-in_err-push-clause-grown c = grown_on c.args.parts.now c.loop-thread.parts c.label_behind.new.parts c.loop-thread.invariant.grown c.in_ok-label.ensures.grown
