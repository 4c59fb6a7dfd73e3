use Rattle.std.proofs.Common.{◌≡◌, ◌+◌, ◌++◌, ap, sym, ◌∙◌, map, take}
use Rattle.grammar_core.specs.Steps.{step_of}
use Rattle.cursor_model.specs.Cursor.{cursor_text}
use Rattle.tree_cursor.proofs.Joined.{dotted, begun}
use Rattle.tree_cursor.proofs.writing.append_steps.Goals.{then-k-gt0+in_ok-push, else-k-gt0}
use Rattle.tree_cursor.proofs.writing.append_steps.Goals as goal

pub loop-k-preserved : goal.loop-k-preserved
loop-k-preserved c =
    let i = c.loop-k.invariant in
    let lt = c.loop-k-test.true in
    let is = c.index-list-k.is in
    let exact : c.append_step.new.out.items ≡ c.args.out.now.items ++ cursor_text (map step_of (take (c.loop-k.k + 1) c.args.list.now)) =
    elim c.if-k-gt0.branch [
      | then-k-gt0+in_ok-push w ↦ dotted c.args.list.now c.loop-k.k c.index-list-k.result c.args.out.now.items c.loop-k.out.items c.if-k-gt0.out.items c.append_step.new.out.items
          w.if-k-gt0.true lt (sym is) i.0 (ap (λ v. v.items) w.out-is ∙ w.in_ok-push.ensures.items) c.in_ok-append_step.ensures.ok
      | else-k-gt0 w ↦ begun c.args.list.now c.loop-k.k c.index-list-k.result c.args.out.now.items c.loop-k.out.items c.if-k-gt0.out.items c.append_step.new.out.items
          w.if-k-gt0.false lt (sym is) i.0 (ap (λ v. v.items) w.out-is) c.in_ok-append_step.ensures.ok
    ] in
    (exact, record { more = cursor_text (map step_of (take (c.loop-k.k + 1) c.args.list.now)); is = exact })
