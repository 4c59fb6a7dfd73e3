use Rattle.std.proofs.Common.{◌≡◌, map, ◌++◌, take}
use Rattle.slot_analysis.specs.Slots.{rule_clause}
use Rattle.slot_analysis.proofs.clauses.push_rules.Given as goal

abbrev pub invariant-loop-i : goal.invariant-loop-i
invariant-loop-i l = l.clauses ≡ l.initial.clauses ++ map (rule_clause l.separators l.bases) (take l.i l.w.rules)
