use Rattle.std.proofs.Common.{◌≡◌, ◌↔◌, ◌++◌, ◌∙◌, ap, subst, List, Contains}
use Rattle.recognizer_model.specs.declared.thread.Thread.{Thread}
use Rattle.threads.proofs.order.list_ordered.Goals as goal

pub returns : goal.returns
returns c =
    let e : c.extend_from_slice.new.self.items ≡ c.args.row.now = c.in_ok-extend_from_slice.ensures.items ∙ ap (λ (l : List Thread). l ++ c.args.row.now) c.new-ordered.ensures.items in
    record { order = c.sort.ensures.order; same = λ th. subst (λ (l : List Thread). Contains c.sort.new.threads.items th ↔ Contains l th) e (c.sort.ensures.same th) }
