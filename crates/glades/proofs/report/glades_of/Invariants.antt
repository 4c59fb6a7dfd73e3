use Rattle.std.proofs.Common.{◌≡◌, [], take}
use Rattle.glades.specs.Links.{AreKnown}
use Rattle.glades.specs.Heads.{AreGladesOf}
use Rattle.glades.proofs.report.glades_of.Given as goal

abbrev pub invariant-loop-k : goal.invariant-loop-k
invariant-loop-k l = record {
  glades : AreGladesOf l.forest (take l.k l.heads) l.glades.items;
  known : AreKnown l.forest l.seconds;
  empty : l.back.items ≡ [];
}
