use Rattle.std.proofs.Common.{◌≡◌, ◌++◌, IsUtf8}
use Rattle.std.specs.Prelude.{string_bytes}
use Rattle.std.specs.Str.Iter.{chars_rest}
use Rattle.text_reading.proofs.OneLine.{shown_rest}
use Rattle.text_reading.proofs.lines.append_in_line.Given as goal

abbrev pub invariant-loop-c : goal.invariant-loop-c
invariant-loop-c l = record {
  utf8 : IsUtf8 (chars_rest l.c-iterator);
  written : string_bytes l.line ++ shown_rest (chars_rest l.c-iterator) ≡ string_bytes l.fn.line ++ shown_rest l.fn.text;
}
