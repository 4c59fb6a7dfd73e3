use Rattle.std.proofs.Common.{◌≡◌, ◌≤◌, ◌+◌, drop, length}
use Rattle.std.specs.Str.{chars}
use Rattle.dsl_faults.proofs.Counting.{count_behind}
use Rattle.dsl_faults.proofs.quotes.character_count.Given as goal

abbrev pub invariant-loop-byte : goal.invariant-loop-byte
invariant-loop-byte l = record {
  counted : l.count + count_behind l.rest (drop l.byte-index l.text) ≡ length (chars l.text);
  within : l.count ≤ l.byte-index;
}
