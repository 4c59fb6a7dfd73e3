use Rattle.std.proofs.Common.{None, ℕ, ◌+◌, take, sym, subst, arith}
use Rattle.std.specs.declared.vec.Vec.{Vec}
use Rattle.std.specs.declared.alloc.Global.{Global}
use Rattle.std.proofs.lemmas.List.Elements.{Contains-get_or}
use Rattle.std.proofs.lemmas.List.{take_all}
use Rattle.lexer.proofs.Done.{DoneTo, done_none, done_more, done_skip}
use Rattle.lexer.proofs.lexer.list_done.Goals.{then-is_match+in_ok-push, else-is_match}
use Rattle.lexer.proofs.lexer.list_done.Goals as goal

pub is_match-requires : goal.is_match-requires
is_match-requires c = c.requires _ (Contains-get_or c.args.row.now c.loop-thread.thread-index (record { rule = 0; dot = 0; label = None }) (omega arith))

pub loop-thread-init : goal.loop-thread-init
loop-thread-init c = done_none c.args.flat.now c.args.done.now.items

pub loop-thread-preserved : goal.loop-thread-preserved
loop-thread-preserved c =
    let g = c.args.flat.now in
    let row = c.args.row.now in
    let i = c.loop-thread.thread-index in
    let old = c.args.done.now.items in
    let mid = c.loop-thread.done.items in
    let lt = c.loop-thread-test.true in
    elim c.if-is_match.branch [
      | then-is_match+in_ok-push w ↦
          subst (λ (v : Vec ℕ Global). DoneTo g old (take (i + 1) row) v.items) (sym w.done-is)
          (done_more g old row i (record { rule = 0; dot = 0; label = None }) lt mid c.loop-thread.invariant (c.is_match.ensures.0 w.if-is_match.true) w.push.new.self.items w.in_ok-push.ensures.items)
      | else-is_match w ↦
          subst (λ (v : Vec ℕ Global). DoneTo g old (take (i + 1) row) v.items) (sym w.done-is)
          (done_skip g old row i (record { rule = 0; dot = 0; label = None }) lt mid c.loop-thread.invariant (λ m. let t = c.is_match.ensures.1 m in let f = w.if-is_match.false in absurd (cc)))
    ]

pub returns : goal.returns
returns c = subst (λ l. DoneTo c.args.flat.now c.args.done.now.items l c.loop-thread.done.items) (take_all c.loop-thread.thread-index c.args.row.now c.loop-thread-test.false) c.loop-thread.invariant
