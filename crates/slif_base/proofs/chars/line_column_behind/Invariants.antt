use Rattle.std.proofs.Common.{◌≡◌, ◌++◌, IsUtf8}
use Rattle.std.specs.Str.{chars}
use Rattle.std.specs.Str.Iter.{chars_rest}
use Rattle.outside_model.specs.Places.{line_after, column_after}
use Rattle.slif_base.proofs.chars.line_column_behind.Given as goal

abbrev pub invariant-loop-c : goal.invariant-loop-c
invariant-loop-c l = record {
  utf8 : IsUtf8 (chars_rest l.c-iterator);
  both : l.yielded ++ chars (chars_rest l.c-iterator) ≡ chars l.fn.text;
  line : l.line ≡ line_after l.yielded;
  column : l.column ≡ column_after l.yielded;
}
