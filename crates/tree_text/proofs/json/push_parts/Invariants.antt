use Rattle.std.proofs.Common.{◌≡◌, ◌++◌, drop, map, string_bytes, false}
use Rattle.tree_text.specs.Parts.{part_of}
use Rattle.tree_text.specs.Written.{parts_json}
use Rattle.tree_text.proofs.json.push_parts.Given as goal

abbrev pub invariant-loop-part : goal.invariant-loop-part
invariant-loop-part l = string_bytes l.out ++ parts_json l.follows (map part_of (drop l.part-index l.parts)) ≡ string_bytes l.fn.out ++ parts_json false (map part_of l.parts)
