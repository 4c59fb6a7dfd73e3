use Rattle.std.proofs.Common.{List, Contains, sym, subst, arith}
use Rattle.std.proofs.lemmas.Result.{on_ok_weaker}
use Rattle.forest_parts.specs.declared.parts.Part.{Part}
use Rattle.forest_parts.specs.declared.groups.Group.{Group}
use Rattle.forest_parts.specs.Parts.{IsPartAt}
use Rattle.forest_parts.specs.Groups.{RanksFall, AreGroups}
use Rattle.forest_parts.proofs.Ranks.{ranks_fall}
use Rattle.forest_parts.proofs.Listed.{listed_part}
use Rattle.bocage.specs.Joins.{AreJoins}
use Rattle.bocage.proofs.Needing.{needed_listed}
use Rattle.bocage.proofs.ends.gather.Goals as goal

pub list_parts-requires-clause-hidden : goal.list_parts-requires-clause-hidden
list_parts-requires-clause-hidden c item h = (c.requires.hidden.hidden item h).0

pub list_groups-requires-clause-ends : goal.list_groups-requires-clause-ends
list_groups-requires-clause-ends c p h =
    let (part, end, bound) =
    listed_part c.args.w.now c.args.ranking c.args.recce.now c.requires.read.is c.args.end c.args.least c.requires.end c.args.hidden.now (λ i z. (c.requires.hidden.hidden i z).0) p ((c.in_ok-list_parts.ensures.exact p).0 (subst (λ (l : List Part). Contains l p) c.deref.ensures.value h)) in
    (end, omega arith)

pub list_groups-requires-clause-ranks : goal.list_groups-requires-clause-ranks
list_groups-requires-clause-ranks c =
    subst (λ (l : List Part). RanksFall l) (sym c.deref.ensures.value)
    (ranks_fall c.args.w.now c.args.ranking c.args.recce.now c.requires.read.is c.args.end c.args.least c.list_parts.new.parts.items
    (λ p h. listed_part c.args.w.now c.args.ranking c.args.recce.now c.requires.read.is c.args.end c.args.least c.requires.end c.args.hidden.now (λ i z. (c.requires.hidden.hidden i z).0) p ((c.in_ok-list_parts.ensures.exact p).0 h))
    c.in_ok-list_parts.ensures.sorted)

pub list_joins-requires : goal.list_joins-requires
list_joins-requires c x h =
    let is = c.in_ok-list_groups.ensures.are x (subst (λ (l : List Group). Contains l x) c.deref-2.ensures.value h) in
    let some = is.some in
    let (s, l) = is.each x.first (omega arith) is.some in
    let e = c.requires.end in
    omega arith

pub returns-clause-gathered : goal.returns-clause-gathered
returns-clause-gathered c =
    let are : (p : Part) → Contains c.list_parts.new.parts.items p → IsPartAt c.args.w.now c.args.ranking c.args.recce.now c.args.end c.args.least p =
    λ p h. listed_part c.args.w.now c.args.ranking c.args.recce.now c.requires.read.is c.args.end c.args.least c.requires.end c.args.hidden.now (λ i z. (c.requires.hidden.hidden i z).0) p ((c.in_ok-list_parts.ensures.exact p).0 h) in
    on_ok_weaker c.list_joins.result
    (λ joins. record {
      are = are;
      all = λ p at need. (c.in_ok-list_parts.ensures.exact p).1 (needed_listed c.args.w.now c.args.ranking c.args.recce.now c.requires.read.is c.args.end c.args.least c.requires.end c.args.hidden.now c.requires.hidden p at need);
      sorted = c.in_ok-list_parts.ensures.sorted;
      ranks = ranks_fall c.args.w.now c.args.ranking c.args.recce.now c.requires.read.is c.args.end c.args.least c.list_parts.new.parts.items are c.in_ok-list_parts.ensures.sorted;
      groups = subst (λ (l : List Part). AreGroups c.args.ranking c.args.end l c.list_groups.new.groups.items) c.deref.ensures.value c.in_ok-list_groups.ensures;
      joins = subst (λ (l : List Group). AreJoins c.args.recce.now c.args.least l c.list_joins.new.joins.items) c.deref-2.ensures.value joins;
    })
    c.list_joins.ensures
