-- Lines of the standard error, one after the other.
use Rattle.std.proofs.Common.{ℕ, ◌≤◌, List, [], sym, append-nil, arith}
use Rattle.outside_model.specs.Causes.{Rose}
use Rattle.outside_model.specs.Told.{AppendsPrefix}
use Rattle.slif_base.proofs.Bytes.{appends_twice}
use Rattle.run_model.specs.Outside.{Stream}
use Rattle.slif_cli.specs.Stops.{Tells, Breaks}
use Rattle.slif_cli.specs.Stops.Tells.{Whole, Part}

-- the write of a line failed, and another line was tried
pub breaks : (before mid after : Stream) (line other : List ℕ) → Rose before.faults mid.faults → mid.faults ≤ after.faults
    → AppendsPrefix before.bytes mid.bytes line → Tells mid after other → Breaks before after line other
breaks before mid after line other rose later part (Whole whole) = record {
  rose = omega arith;
  text = part.bytes;
  rest = part.rest;
  split = part.split;
  other_text = other;
  other_rest = [];
  other_split = sym (append-nil other);
  appends = appends_twice before.bytes mid.bytes after.bytes part.bytes other part.appends whole;
}
breaks before mid after line other rose later part (Part again tail) = record {
  rose = omega arith;
  text = part.bytes;
  rest = part.rest;
  split = part.split;
  other_text = tail.bytes;
  other_rest = tail.rest;
  other_split = tail.split;
  appends = appends_twice before.bytes mid.bytes after.bytes part.bytes tail.bytes part.appends tail.appends;
}
