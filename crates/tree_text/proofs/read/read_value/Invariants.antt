use Rattle.std.proofs.Common.{◌+◌, ◌≤◌, length, map}
use denote.Text.{Utf8}
use denote.Shadow.{shadow}
use Rattle.tree_text.specs.Parts.{part_of}
use Rattle.tree_text.proofs.Reading.{Reading}
use Rattle.tree_text.proofs.read.read_value.Given as goal

abbrev pub invariant-loop-left : goal.invariant-loop-left
invariant-loop-left l = record {
  utf8 : shadow (Utf8 l.rest);
  reading : Reading l.fn.text l.place l.depth (map part_of l.parts.items) l.rest;
  room : l.depth + length l.rest ≤ length l.fn.text;
}

abbrev pub decreases-loop-left : goal.decreases-loop-left
decreases-loop-left l = length l.rest
