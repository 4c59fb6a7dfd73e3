use Rattle.std.proofs.Common.{◌-◌, map}
use Rattle.forest_parts.specs.Hidden.{RisesWithin}
use Rattle.bocage.specs.Walk.{IsUsedIn, GrowsBy}
use Rattle.forest_parts.specs.Chains.{AreChained}
use Rattle.bocage.specs.Ends.{AreVisited}
use Rattle.bocage.specs.Given.{IsAfterFrom}
use Rattle.bocage.proofs.ends.walk.Given as goal

abbrev pub invariant-loop-back : goal.invariant-loop-back
invariant-loop-back g l = record {
  visited : AreVisited l.w l.ranking l.recce (l.earleme - l.back) l.found (map (λ r. r.now) l.table.items);
  chained : AreChained l.found.keys.keys l.work.chains.heads.items l.work.chains.below.items;
  grows : GrowsBy (IsUsedIn l.w l.ranking l.recce) l.fn.found.keys.keys l.found.keys.keys;
  counted : RisesWithin (IsAfterFrom l.w l.ranking l.recce l.given (l.earleme - l.back)) l.fn.steps l.steps;
}
