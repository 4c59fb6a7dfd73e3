use Rattle.std.proofs.Common.{◌≡◌, ◌++◌, IsUtf8, string_bytes}
use Rattle.std.specs.Str.{chars}
use Rattle.std.specs.Str.Iter.{chars_rest}
use Rattle.std.specs.List.{flat_map}
use Rattle.ini_json.specs.Json.{character_json}
use Rattle.ini_json.proofs.json.put_inside.Given as goal

abbrev pub invariant-loop-c : goal.invariant-loop-c
invariant-loop-c l = record {
  utf8 : IsUtf8 (chars_rest l.c-iterator);
  written : string_bytes l.out ++ flat_map character_json (chars (chars_rest l.c-iterator)) ≡ string_bytes l.fn.out ++ flat_map character_json (chars l.fn.text);
}
