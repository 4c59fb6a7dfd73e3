use Rattle.std.proofs.Common.{◌≡◌, ◌++◌, ◌+◌, length, IsUtf8}
use Rattle.std.specs.Str.{chars}
use Rattle.std.specs.Str.Iter.{chars_rest}
use Rattle.slif_base.specs.Characters.{starts_from}
use Rattle.slif_base.proofs.chars.starts_of.Given as goal

abbrev pub invariant-loop-c : goal.invariant-loop-c
invariant-loop-c l = record {
  utf8 : IsUtf8 (chars_rest l.c-iterator);
  place : l.at + length (chars_rest l.c-iterator) ≡ length l.fn.text;
  starts : l.starts.items ++ starts_from l.at (chars (chars_rest l.c-iterator)) ≡ starts_from 0 (chars l.fn.text);
}
