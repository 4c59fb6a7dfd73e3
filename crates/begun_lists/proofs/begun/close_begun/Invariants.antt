use Rattle.std.proofs.Common.{◌≡◌, [], take, Contains}
use Rattle.recognizer_model.specs.declared.Item.{Item}
use Rattle.begun_lists.specs.Closing.{Follows}
use Rattle.begun_lists.specs.Begun.{BeginTogether}
use Rattle.leo_items.specs.Closed.{IsClosedTo}
use Rattle.begun_lists.specs.Tried.{RisesWithin, MakesOneLater}
use Rattle.begun_lists.proofs.begun.close_begun.Given as goal

abbrev pub invariant-loop-k : goal.invariant-loop-k
invariant-loop-k g l = record {
  closed : IsClosedTo l.flat (Follows l.flat [] 0) l.initial.set l.set l.k;
  origins : (item : Item) → Contains l.set item → item.origin ≡ 0;
  together : BeginTogether l.flat l.set;
  counted : RisesWithin (MakesOneLater l.flat (take l.k l.set)) l.initial.steps l.steps;
}
