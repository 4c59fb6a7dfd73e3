use Rattle.std.proofs.Common.{◌≡◌, ◌+◌, ◌++◌, IsUtf8, length}
use Rattle.std.specs.Str.{chars}
use Rattle.std.specs.Str.Iter.{chars_rest}
use Rattle.slif_glades.specs.Lines.{starts_from, line_starts}
use Rattle.slif_glades.proofs.lines.Lines.of.Given as goal

abbrev pub invariant-loop-c : goal.invariant-loop-c
invariant-loop-c l = record {
  utf8 : IsUtf8 (chars_rest l.c-iterator);
  at : l.at + length (chars (chars_rest l.c-iterator)) ≡ length (chars l.fn.text);
  starts : l.starts.items ++ starts_from l.at (chars (chars_rest l.c-iterator)) ≡ line_starts (chars l.fn.text);
}
