use Rattle.std.proofs.Common.{◌<◌, refl, sym, subst, arith, length}
use Rattle.std.proofs.lemmas.Result.{on_ok_weaker}
use Rattle.recognizer_model.specs.declared.Pair.{Pair}
use Rattle.earley_sets.specs.Tried.{MakesLink}
use Rattle.earley_sets.proofs.Following.{goes_skipped, goes_done, goes_nowhere}
use Rattle.begun_lists.proofs.Rising.{rises_none}
use Rattle.earley_sets.proofs.Trying.{links_skipped, links_done}
use Rattle.earley_sets.proofs.Twice.{told, twice_by_pair, waiting_never, late_never}
use Rattle.recognizer_model.specs.Flat.{rhs_of}
use Rattle.finite_sets.proofs.Lists.{get_end}
use Rattle.earley_sets.proofs.follow.list_next.Goals as goal

pub list_skipped-requires-clause-symbol : goal.list_skipped-requires-clause-symbol
list_skipped-requires-clause-symbol g c = c.known.ensures.flat.in_range.parts c.args.item.rule c.args.item.dot c.in-Some.x c.requires.item.is_rule (sym c.in-Some.ensures.value)

pub list_done-requires-clause-set : goal.list_done-requires-clause-set
list_done-requires-clause-set g c = subst (λ (p : Pair). p.set < length c.args.rows.now.sets) (sym c.pair_above.ensures) (let lt = c.if-item-earleme.true in let le = c.requires.earleme in omega arith)

pub returns-in_ok-list_skipped-in-Some-clause-listed : goal.returns-in_ok-list_skipped-in-Some-clause-listed
returns-in_ok-list_skipped-in-Some-clause-listed g c =
    goes_skipped c.args.flat.now c.args.rows.now.sets c.args.earleme c.args.item c.in-Some.x (sym c.in-Some.ensures.value) c.args.next.now.items c.list_skipped.new.next.items c.in_ok-list_skipped-in-Some.ensures.listed

pub returns-then-item-earleme-clause-listed : goal.returns-then-item-earleme-clause-listed
returns-then-item-earleme-clause-listed g c =
    on_ok_weaker c.list_done.result
    (goes_done c.args.flat.now c.args.rows.now.sets c.args.earleme c.args.item (sym c.in-None.ensures.value) c.args.next.now.items c.list_done.new.next.items c.requires.item c.if-item-earleme.true c.pair_above.result c.pair_above.ensures)
    c.list_done.ensures.listed

pub returns-else-item-earleme-clause-listed : goal.returns-else-item-earleme-clause-listed
returns-else-item-earleme-clause-listed g c =
    goes_nowhere c.args.flat.now c.args.rows.now.sets c.args.earleme c.args.item (sym c.in-None.ensures.value) c.args.next.now.items c.if-item-earleme.false

pub returns-in_ok-list_skipped-in-Some-clause-links : goal.returns-in_ok-list_skipped-in-Some-clause-links
returns-in_ok-list_skipped-in-Some-clause-links g c =
    links_skipped c.args.flat.now c.args.rows.now.sets c.args.earleme c.args.item c.in-Some.x (length c.args.next.now.items) (length c.list_skipped.new.next.items) (sym c.in-Some.ensures.value) c.in_ok-list_skipped-in-Some.ensures.links

pub returns-then-item-earleme-clause-links : goal.returns-then-item-earleme-clause-links
returns-then-item-earleme-clause-links g c =
    on_ok_weaker c.list_done.result
    (links_done c.args.flat.now c.args.rows.now.sets c.args.earleme c.args.item (sym c.in-None.ensures.value) c.requires.item c.if-item-earleme.true c.pair_above.result c.pair_above.ensures (length c.args.next.now.items) (length c.list_done.new.next.items))
    c.list_done.ensures.links

pub returns-else-item-earleme-clause-links : goal.returns-else-item-earleme-clause-links
returns-else-item-earleme-clause-links g c = rises_none (MakesLink c.args.flat.now c.args.rows.now.sets c.args.earleme c.args.item) (length c.args.next.now.items) (length c.args.next.now.items) refl

pub returns-then-item-earleme-clause-twice : goal.returns-then-item-earleme-clause-twice
returns-then-item-earleme-clause-twice g c =
    told c.list_done.result
    (twice_by_pair c.args.flat.now c.args.rows.now.sets c.args.earleme c.args.item c.requires.rows.are (get_end (rhs_of c.args.flat.now c.args.item.rule) c.args.item.dot c.requires.item.within (sym c.in-None.ensures.value)) c.if-item-earleme.true
    c.pair_above.result c.pair_above.ensures)
    c.list_done.ensures.twice

pub returns-in_ok-list_skipped-in-Some-clause-twice : goal.returns-in_ok-list_skipped-in-Some-clause-twice
returns-in_ok-list_skipped-in-Some-clause-twice g c = waiting_never c.args.flat.now c.args.rows.now.sets c.args.earleme c.args.item c.in-Some.x (sym c.in-Some.ensures.value)

pub returns-else-item-earleme-clause-twice : goal.returns-else-item-earleme-clause-twice
returns-else-item-earleme-clause-twice g c = late_never c.args.flat.now c.args.rows.now.sets c.args.earleme c.args.item c.if-item-earleme.false
