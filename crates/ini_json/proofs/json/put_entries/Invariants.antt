use Rattle.std.proofs.Common.{◌≡◌, ◌++◌, drop, map, string_bytes, false}
use Rattle.ini_json.specs.Json.{settings_json}
use Rattle.ini_json.specs.Nodes.{setting_of}
use Rattle.ini_json.proofs.json.put_entries.Given as goal

abbrev pub invariant-loop-entry : goal.invariant-loop-entry
invariant-loop-entry l = string_bytes l.out ++ settings_json l.follows (map setting_of (drop l.entry-index l.entries)) ≡ string_bytes l.fn.out ++ settings_json false (map setting_of l.entries)
