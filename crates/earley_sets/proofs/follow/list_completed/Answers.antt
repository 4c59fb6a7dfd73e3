use Rattle.std.proofs.Common.{arith}
use Rattle.std.proofs.lemmas.Result.{on_ok_weaker}
use Rattle.std.proofs.lemmas.Option.{slice_get_within}
use Rattle.recognizer_model.specs.Flat.{rhs_of}
use Rattle.recognizer_model.specs.Items.{advanced}
use Rattle.item_rows.specs.Rows.{row_at}
use Rattle.item_rows.proofs.Viewing.{waits_over}
use Rattle.earley_sets.specs.Tried.{IsWaiting}
use Rattle.earley_sets.proofs.Following.{has_advanced}
use Rattle.earley_sets.proofs.Trying.{rises_listed}
use Rattle.earley_sets.proofs.follow.list_completed.Goals as goal

pub list_advanced-requires : goal.list_advanced-requires
list_advanced-requires c w h =
    let (there, e) = ((waits_over c.args.rows.now c.args.flat.now (row_at c.args.rows.now.sets c.args.origin) c.waiting-waiting.result c.args.symbol c.requires.rows.flat c.waiting-waiting.ensures).exact w).0 h in
    let is = (c.requires.rows.are c.args.origin).items w there in
    let lt = slice_get_within (rhs_of c.args.flat.now w.rule) w.dot c.args.symbol e in
    let short = c.known.ensures.flat.in_range.short w.rule is.is_rule in
    omega arith

pub returns-clause-listed : goal.returns-clause-listed
returns-clause-listed c =
    on_ok_weaker c.list_advanced.result
    (λ e. has_advanced c.args.flat.now (row_at c.args.rows.now.sets c.args.origin) c.waiting-waiting.result c.args.symbol (waits_over c.args.rows.now c.args.flat.now (row_at c.args.rows.now.sets c.args.origin) c.waiting-waiting.result c.args.symbol c.requires.rows.flat c.waiting-waiting.ensures) c.args.next.now.items c.list_advanced.new.next.items e)
    c.list_advanced.ensures

pub returns-clause-links : goal.returns-clause-links
returns-clause-links c =
    on_ok_weaker c.list_advanced.result
    (λ e. rises_listed (IsWaiting c.args.flat.now (row_at c.args.rows.now.sets c.args.origin) c.args.symbol) c.waiting-waiting.result (waits_over c.args.rows.now c.args.flat.now (row_at c.args.rows.now.sets c.args.origin) c.waiting-waiting.result c.args.symbol c.requires.rows.flat c.waiting-waiting.ensures) advanced c.args.next.now.items c.list_advanced.new.next.items e)
    c.list_advanced.ensures
