use Rattle.std.proofs.Common.{◌≡◌, ◌++◌, drop, map, string_bytes, false}
use Rattle.ini_json.specs.Json.{groups_json}
use Rattle.ini_json.specs.Nodes.{group_of}
use Rattle.ini_json.proofs.json.put_sections.Given as goal

abbrev pub invariant-loop-section : goal.invariant-loop-section
invariant-loop-section l = string_bytes l.out ++ groups_json l.follows (map group_of (drop l.section-index l.sections)) ≡ string_bytes l.fn.out ++ groups_json false (map group_of l.sections)
