use Rattle.std.proofs.Common.{List, sym, subst}
use Rattle.recognizer_model.specs.declared.thread.Thread.{Thread}
use Rattle.threads.specs.Order.{IsOrderOf}
use Rattle.threads.proofs.scan.scan_by.Goals as goal

pub list_ordered_for-requires : goal.list_ordered_for-requires
list_ordered_for-requires c th h = (c.requires.row th h).is_rule

pub list_seeds-listed-requires-clause-order : goal.list_seeds-listed-requires-clause-order
list_seeds-listed-requires-clause-order c th x h none e reads = subst (λ (l : List Thread). IsOrderOf c.args.flat.now c.args.row.now l) (sym c.deref.ensures.value) (c.in_ok-ordered.ensures th x h none e reads)
