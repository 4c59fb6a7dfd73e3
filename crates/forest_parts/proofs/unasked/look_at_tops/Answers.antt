use Rattle.std.proofs.Common.{◌≤◌, length, sym, subst, arith}
use Rattle.finite_sets.proofs.Lists.{got_item, got_at}
use Rattle.recognizer_model.specs.declared.Item.{Item}
use Rattle.earley_sets.specs.Below.{LeadsUp}
use Rattle.earley_sets.proofs.Membership.{found_at}
use Rattle.forest_parts.specs.Unasked.{IsTopmostFrom}
use Rattle.forest_parts.proofs.Gathering.{ByFirst}
use Rattle.forest_parts.proofs.Sets.{kept_inside, found_item}
use Rattle.forest_parts.proofs.Taking.{tells_none, tells_of, tells_more}
use Rattle.forest_parts.proofs.unasked.look_at_tops.Goals as goal

pub look_at_top-requires-clause-rule : goal.look_at_top-requires-clause-rule
look_at_top-requires-clause-rule c =
    (found_item c.args.recce.now c.requires.is c.args.end c.at.result (kept_inside c.args.recce.now c.requires.is c.args.end c.at.result c.requires.end
    ((c.whole-set.ensures.exact c.at.result).0 (got_item c.whole-set.result c.loop-k.k c.at.result (sym c.at.ensures))).0)).is_rule

pub look_at_top-requires-clause-parted : goal.look_at_top-requires-clause-parted
look_at_top-requires-clause-parted c = c.loop-k.invariant.parted

pub loop-k-init : goal.loop-k-init
loop-k-init c =
    tells_none c.args.w.now c.args.ranking c.args.recce.now c.args.keys.now.keys c.args.end (ByFirst (λ (item x : Item). LeadsUp c.args.recce.now c.args.end item x × (c.args.least ≤ x.origin)) c.whole-set.result 0) c.args.unasked.now.keys c.args.asked.now.keys c.requires.parted
    (λ x (i, y, lt, at, rel). absurd (omega arith))

pub loop-k-preserved : goal.loop-k-preserved
loop-k-preserved c =
    tells_more c.args.w.now c.args.ranking c.args.recce.now c.args.keys.now.keys c.args.end (λ (item x : Item). LeadsUp c.args.recce.now c.args.end item x × (c.args.least ≤ x.origin)) c.whole-set.result c.loop-k.k c.args.unasked.now.keys c.args.asked.now.keys
    c.loop-k.unasked.keys c.loop-k.asked.keys c.look_at_top.new.unasked.keys c.look_at_top.new.asked.keys c.at.result c.loop-k.invariant c.at.ensures c.in_ok-look_at_top.ensures

pub returns : goal.returns
returns c =
    let le : length c.whole-set.result ≤ c.loop-k.k = subst (λ n. n ≤ c.loop-k.k) c.len-k-end.ensures c.loop-k-test.false in
    tells_of c.args.w.now c.args.ranking c.args.recce.now c.args.keys.now.keys c.args.end (ByFirst (λ (item x : Item). LeadsUp c.args.recce.now c.args.end item x × (c.args.least ≤ x.origin)) c.whole-set.result c.loop-k.k) (IsTopmostFrom c.args.recce.now c.args.end c.args.least)
    c.args.unasked.now.keys c.args.asked.now.keys c.loop-k.unasked.keys c.loop-k.asked.keys
    (λ x ((item, (here, full, lt, leads)), late).
    (let (i, at) = found_at c.whole-set.result item ((c.whole-set.ensures.exact item).1 (here, full)) in
    let (below, same) = got_at c.whole-set.result i item item (sym at) in
    (i, item, omega arith, at, ((lt, leads), late))))
    c.loop-k.invariant
