use Rattle.std.proofs.Common.{◌≡◌, ◌≤◌, Contains, length, subst}
use Rattle.recognizer_model.specs.declared.Item.{Item}
use Rattle.forest_parts.proofs.Gathering.{gains_same, first_none, first_more, first_all}
use Rattle.bocage.specs.declared.joins.Join.{Join}
use Rattle.bocage.specs.Joins.{predecessor_of_join, IsJoinOf}
use Rattle.bocage.proofs.JoinOrder.{joins_are}
use Rattle.bocage.proofs.joins.put_joins.Goals as goal

pub loop-k-init : goal.loop-k-init
loop-k-init c = first_none (λ (item : Item) (j : Join). (j.group ≡ c.args.number) × (predecessor_of_join j ≡ item) × (c.args.least ≤ item.origin)) c.waiting-waiting.result c.args.joins.now.items

pub loop-k-preserved : goal.loop-k-preserved
loop-k-preserved c =
    first_more (λ (item : Item) (j : Join). (j.group ≡ c.args.number) × (predecessor_of_join j ≡ item) × (c.args.least ≤ item.origin)) c.waiting-waiting.result c.loop-k.k c.args.joins.now.items c.loop-k.joins.items c.put_join.new.joins.items
    c.at.result c.loop-k.invariant c.at.ensures c.in_ok-put_join.ensures

pub returns : goal.returns
returns c =
    let le : length c.waiting-waiting.result ≤ c.loop-k.k = subst (λ n. n ≤ c.loop-k.k) c.len-k-end.ensures c.loop-k-test.false in
    gains_same (λ (j : Join). (item : Item) × Contains c.waiting-waiting.result item × ((j.group ≡ c.args.number) × (predecessor_of_join j ≡ item) × (c.args.least ≤ item.origin)))
    (λ (j : Join). (j.group ≡ c.args.number) × IsJoinOf c.args.recce.now c.args.least c.args.group j) c.args.joins.now.items c.loop-k.joins.items
    (first_all (λ (item : Item) (j : Join). (j.group ≡ c.args.number) × (predecessor_of_join j ≡ item) × (c.args.least ≤ item.origin)) c.waiting-waiting.result c.loop-k.k c.args.joins.now.items c.loop-k.joins.items c.loop-k.invariant le)
    (joins_are c.args.recce.now c.args.least c.args.number c.args.group c.waiting-waiting.result c.waiting-waiting.ensures.exact)
