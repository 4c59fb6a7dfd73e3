use Rattle.std.proofs.Common.{◌≡◌, length, take}
use Rattle.glades.specs.Links.{all_noted}
use Rattle.glades.proofs.links.note_all.Given as goal

abbrev pub invariant-loop-at : goal.invariant-loop-at
invariant-loop-at l = record {
  same : l.notes.items ≡ all_noted (take l.at l.alternatives) l.initial.notes.items;
  long : length l.notes.items ≡ length l.initial.notes.items;
}
