use Rattle.std.proofs.Common.{◌≡◌, ◌≤◌, Contains, length, subst}
use Rattle.recognizer_model.specs.declared.Item.{Item}
use Rattle.forest_parts.proofs.Gathering.{gains_same, first_none, first_more, first_all}
use Rattle.first_walk.specs.declared.joined.Joined.{Joined}
use Rattle.first_walk.specs.Joined.{item_of_joined, IsJoinedTo}
use Rattle.first_walk.proofs.JoinedOrder.{joined_are}
use Rattle.first_walk.proofs.joined.put_joined.Goals as goal

pub loop-k-init : goal.loop-k-init
loop-k-init c = first_none (λ (item : Item) (j : Joined). (j.part ≡ c.args.number) × (item_of_joined j ≡ item)) c.waiting-waiting.result c.args.joined.now.items

pub loop-k-preserved : goal.loop-k-preserved
loop-k-preserved c =
    first_more (λ (item : Item) (j : Joined). (j.part ≡ c.args.number) × (item_of_joined j ≡ item)) c.waiting-waiting.result c.loop-k.k c.args.joined.now.items c.loop-k.joined.items c.put_one.new.joined.items
    c.at.result c.loop-k.invariant c.at.ensures c.in_ok-put_one.ensures

pub returns : goal.returns
returns c =
    let le : length c.waiting-waiting.result ≤ c.loop-k.k = subst (λ n. n ≤ c.loop-k.k) c.len-k-end.ensures c.loop-k-test.false in
    gains_same (λ (j : Joined). (item : Item) × Contains c.waiting-waiting.result item × ((j.part ≡ c.args.number) × (item_of_joined j ≡ item)))
    (λ (j : Joined). (j.part ≡ c.args.number) × IsJoinedTo c.args.recce.now c.args.part j) c.args.joined.now.items c.loop-k.joined.items
    (first_all (λ (item : Item) (j : Joined). (j.part ≡ c.args.number) × (item_of_joined j ≡ item)) c.waiting-waiting.result c.loop-k.k c.args.joined.now.items c.loop-k.joined.items c.loop-k.invariant le)
    (joined_are c.args.recce.now c.args.number c.args.part c.waiting-waiting.result c.waiting-waiting.ensures.exact)
