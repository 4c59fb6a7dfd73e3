use Rattle.std.proofs.Common.{◌≡◌, ◌∙◌, ◌+◌, ◌<◌, Some, length, map, slice_get, sym, ap, subst, arith}
use Rattle.std.proofs.lemmas.List.{length_push}
use Rattle.bocage.specs.Ends.{SetsRow}
use Rattle.bocage.proofs.Visiting.{more_pushed, sets_pushed, sets_there}
use Rattle.bocage.proofs.ends.set_row.Goals as goal

pub loop-k-preserved : goal.loop-k-preserved
loop-k-preserved c =
    let i = c.loop-k.invariant in
    let e = c.in_ok-push.ensures.items in
    record {
      long = ap (λ n. n + 1) i.long ∙ sym (length_push c.loop-k.table.items _) ∙ ap (λ l. length l) (sym e);
      same = λ m held h. subst (λ l. slice_get (map (λ r. r.now) l) m ≡ Some held) (sym e) (more_pushed (λ r. r.now) (map (λ r. r.now) c.args.table.now.items) c.loop-k.table.items i.same _ m held h);
    }

pub returns-then-node-as_slice : goal.returns-then-node-as_slice
returns-then-node-as_slice c =
    let lt : c.args.node < length c.loop-k.table.items = (let t = c.if-node-as_slice.true in subst (λ l. c.args.node < length l) c.as_slice.ensures.value t) in
    sets_there (λ r. r.now) (map (λ r. r.now) c.args.table.now.items) c.loop-k.table.items c.loop-k.invariant.same c.args.rows c.args.node lt

pub returns-in_ok-push-2 : goal.returns-in_ok-push-2
returns-in_ok-push-2 c =
    let e = c.in_ok-push-2.ensures.items in
    let here : c.args.node ≡ length c.loop-k.table.items = (let t = c.if-node-as_slice.false in let n = c.loop-k-test.false in let l = c.loop-k.invariant.long in let s = ap (λ l. length l) c.as_slice.ensures.value in omega arith) in
    subst (λ l. SetsRow (map (λ r. r.now) c.args.table.now.items) (map (λ r. r.now) l) c.args.node c.args.rows.now) (sym e) (sets_pushed (λ r. r.now) (map (λ r. r.now) c.args.table.now.items) c.loop-k.table.items c.loop-k.invariant.same c.args.rows c.args.node here)
