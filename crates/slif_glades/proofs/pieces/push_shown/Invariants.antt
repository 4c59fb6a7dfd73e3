use Rattle.std.proofs.Common.{◌≡◌, ◌++◌, IsUtf8}
use Rattle.std.specs.Str.{chars}
use Rattle.std.specs.Str.Iter.{chars_rest}
use Rattle.slif_glades.specs.Pieces.{shown}
use Rattle.slif_glades.specs.declared.pieces.TheConstants.{MOST_CHARACTERS}
use Rattle.slif_glades.proofs.pieces.push_shown.Given as goal

abbrev pub invariant-loop-c : goal.invariant-loop-c
invariant-loop-c l = record {
  utf8 : IsUtf8 (chars_rest l.c-iterator);
  written : l.text.items ++ shown l.left (chars (chars_rest l.c-iterator)) ≡ l.fn.text.items ++ shown MOST_CHARACTERS (chars l.fn.whole);
}
