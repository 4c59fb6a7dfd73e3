use Rattle.std.proofs.Common.{◌≡◌, ◌++◌, IsUtf8, string_bytes}
use Rattle.std.specs.Str.{chars}
use Rattle.std.specs.Str.Iter.{chars_rest}
use Rattle.std.specs.List.{flat_map}
use Rattle.tree_text.specs.Written.{visible}
use Rattle.tree_text.proofs.labels.push_name.Given as goal

abbrev pub invariant-loop-c : goal.invariant-loop-c
invariant-loop-c l = record {
  utf8 : IsUtf8 (chars_rest l.c-iterator);
  written : string_bytes l.out ++ flat_map visible (chars (chars_rest l.c-iterator)) ≡ string_bytes l.fn.out ++ flat_map visible (chars l.fn.name);
}
