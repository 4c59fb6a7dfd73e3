use Rattle.std.proofs.Common.{◌≤◌}
use Rattle.recognizer_model.specs.declared.Item.{Item}
use Rattle.forest_parts.specs.declared.parts.Part.{Part}
use Rattle.forest_parts.specs.Parts.{IsWholeOf}
use Rattle.forest_parts.proofs.Gathering.{Gains, ByFirst}
use Rattle.forest_parts.proofs.gather.put_kept.Given as goal

abbrev pub invariant-loop-k : goal.invariant-loop-k
invariant-loop-k l = Gains (ByFirst (λ (item : Item) (p : Part). (l.least ≤ item.origin) × IsWholeOf l.w l.ranking l.recce.flat l.end item p) l.set l.k) l.initial.parts.items l.parts.items
