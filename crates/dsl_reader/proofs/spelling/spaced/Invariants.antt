use Rattle.std.proofs.Common.{◌≡◌, ◌++◌, IsUtf8, false, encode_utf8_all, string_bytes}
use Rattle.std.specs.Str.{chars}
use Rattle.std.specs.Str.Iter.{chars_rest}
use Rattle.language_model.specs.Tokens.{spaced}
use Rattle.dsl_reader.proofs.spelling.spaced.Given as goal

abbrev pub invariant-loop-c : goal.invariant-loop-c
invariant-loop-c l = record {
  utf8 : IsUtf8 (chars_rest l.c-iterator);
  made : string_bytes l.out ++ encode_utf8_all (spaced (chars (chars_rest l.c-iterator)) l.started l.pending) ≡ encode_utf8_all (spaced (chars l.fn.text) false false);
}
