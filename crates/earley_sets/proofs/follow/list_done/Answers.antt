use Rattle.std.proofs.Common.{Some, None, inl, inr, ap, arith, length, length-append, ◌∙◌}
use Rattle.std.proofs.lemmas.Option.{slice_get_within}
use Rattle.recognizer_model.specs.Flat.{rhs_of}
use Rattle.recognizer_model.specs.Items.{advanced}
use Rattle.item_rows.specs.Rows.{row_at}
use Rattle.item_rows.proofs.Viewing.{waits_over}
use Rattle.leo_items.proofs.Chains.{step_by_row}
use Rattle.earley_sets.specs.Tried.{IsWaiting}
use Rattle.earley_sets.proofs.Following.{done_none, done_leo, has_advanced}
use Rattle.earley_sets.proofs.Trying.{rises_listed}
use Rattle.earley_sets.proofs.Twice.{twice_by_top, never_twice}
use Rattle.earley_sets.proofs.follow.list_done.Goals as goal

pub leo_of-requires : goal.leo_of-requires
leo_of-requires g c item h = (c.args.pair.symbol, (((waits_over c.args.rows.now c.args.flat.now (row_at c.args.rows.now.sets c.args.pair.set) c.waiting-waiting.result c.args.pair.symbol c.requires.rows.flat c.waiting-waiting.ensures).exact item).0 h).1)

pub topmost-requires-clause-step : goal.topmost-requires-clause-step
topmost-requires-clause-step g c =
    step_by_row c.args.flat.now c.args.rows.now.sets c.args.pair.set c.args.pair.symbol c.waiting-waiting.result (Some c.in-Some.step) (waits_over c.args.rows.now c.args.flat.now (row_at c.args.rows.now.sets c.args.pair.set) c.waiting-waiting.result c.args.pair.symbol c.requires.rows.flat c.waiting-waiting.ensures) c.in-Some.ensures

pub list_advanced-requires : goal.list_advanced-requires
list_advanced-requires g c w h =
    let (there, e) = ((waits_over c.args.rows.now c.args.flat.now (row_at c.args.rows.now.sets c.args.pair.set) c.waiting-waiting.result c.args.pair.symbol c.requires.rows.flat c.waiting-waiting.ensures).exact w).0 h in
    let is = (c.requires.rows.are c.args.pair.set).items w there in
    let lt = slice_get_within (rhs_of c.args.flat.now w.rule) w.dot c.args.pair.symbol e in
    let short = c.known.ensures.flat.in_range.short w.rule is.is_rule in
    omega arith

pub returns-in_ok-push-in-Some-clause-listed : goal.returns-in_ok-push-in-Some-clause-listed
returns-in_ok-push-in-Some-clause-listed g c =
    done_leo c.args.flat.now c.args.rows.now.sets c.args.pair.set c.args.pair.symbol c.args.next.now.items c.push.new.self.items _ c.in_ok-top-in-Some.ensures.leads c.in_ok-push-in-Some.ensures.items

pub returns-in_ok-list_advanced-in-None-clause-listed : goal.returns-in_ok-list_advanced-in-None-clause-listed
returns-in_ok-list_advanced-in-None-clause-listed g c =
    done_none c.args.flat.now c.args.rows.now.sets c.args.pair.set c.args.pair.symbol c.args.next.now.items c.list_advanced.new.next.items
    (step_by_row c.args.flat.now c.args.rows.now.sets c.args.pair.set c.args.pair.symbol c.waiting-waiting.result None (waits_over c.args.rows.now c.args.flat.now (row_at c.args.rows.now.sets c.args.pair.set) c.waiting-waiting.result c.args.pair.symbol c.requires.rows.flat c.waiting-waiting.ensures) c.in-None.ensures)
    (has_advanced c.args.flat.now (row_at c.args.rows.now.sets c.args.pair.set) c.waiting-waiting.result c.args.pair.symbol (waits_over c.args.rows.now c.args.flat.now (row_at c.args.rows.now.sets c.args.pair.set) c.waiting-waiting.result c.args.pair.symbol c.requires.rows.flat c.waiting-waiting.ensures) c.args.next.now.items c.list_advanced.new.next.items c.in_ok-list_advanced-in-None.ensures)

pub returns-in_ok-push-in-Some-clause-links : goal.returns-in_ok-push-in-Some-clause-links
returns-in_ok-push-in-Some-clause-links g c =
    inr ((_, c.in_ok-top-in-Some.ensures.leads), ap length c.in_ok-push-in-Some.ensures.items ∙ length-append c.args.next.now.items _)

pub returns-in_ok-list_advanced-in-None-clause-links : goal.returns-in_ok-list_advanced-in-None-clause-links
returns-in_ok-list_advanced-in-None-clause-links g c = inl (
  step_by_row c.args.flat.now c.args.rows.now.sets c.args.pair.set c.args.pair.symbol c.waiting-waiting.result None (waits_over c.args.rows.now c.args.flat.now (row_at c.args.rows.now.sets c.args.pair.set) c.waiting-waiting.result c.args.pair.symbol c.requires.rows.flat c.waiting-waiting.ensures) c.in-None.ensures,
  rises_listed (IsWaiting c.args.flat.now (row_at c.args.rows.now.sets c.args.pair.set) c.args.pair.symbol) c.waiting-waiting.result (waits_over c.args.rows.now c.args.flat.now (row_at c.args.rows.now.sets c.args.pair.set) c.waiting-waiting.result c.args.pair.symbol c.requires.rows.flat c.waiting-waiting.ensures) advanced c.args.next.now.items c.list_advanced.new.next.items c.in_ok-list_advanced-in-None.ensures,
)

pub returns-in_ok-push-in-Some-clause-twice : goal.returns-in_ok-push-in-Some-clause-twice
returns-in_ok-push-in-Some-clause-twice g c =
    twice_by_top c.args.flat.now c.args.rows.now.sets c.args.pair.set c.args.pair.symbol c.in-Some.step c.in_ok-top-in-Some.top
    (step_by_row c.args.flat.now c.args.rows.now.sets c.args.pair.set c.args.pair.symbol c.waiting-waiting.result (Some c.in-Some.step) (waits_over c.args.rows.now c.args.flat.now (row_at c.args.rows.now.sets c.args.pair.set) c.waiting-waiting.result c.args.pair.symbol c.requires.rows.flat c.waiting-waiting.ensures) c.in-Some.ensures)
    c.in_ok-top-in-Some.ensures.leads c.goes_on.result c.goes_on.ensures

pub returns-in_ok-list_advanced-in-None-clause-twice : goal.returns-in_ok-list_advanced-in-None-clause-twice
returns-in_ok-list_advanced-in-None-clause-twice g c =
    never_twice c.args.flat.now c.args.rows.now.sets c.args.pair.set c.args.pair.symbol
    (step_by_row c.args.flat.now c.args.rows.now.sets c.args.pair.set c.args.pair.symbol c.waiting-waiting.result None (waits_over c.args.rows.now c.args.flat.now (row_at c.args.rows.now.sets c.args.pair.set) c.waiting-waiting.result c.args.pair.symbol c.requires.rows.flat c.waiting-waiting.ensures) c.in-None.ensures)
