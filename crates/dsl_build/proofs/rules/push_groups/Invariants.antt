use Rattle.std.proofs.Common.{◌≡◌, ◌++◌, drop, map, length, ◌+◌}
use Rattle.grammar_core.specs.Written.{rule_of}
use Rattle.language_model.specs.Building.{rules_of_groups}
use Rattle.dsl_build.proofs.rules.push_groups.Given as goal

abbrev pub invariant-loop-group : goal.invariant-loop-group
invariant-loop-group l = record {
  level : l.level + l.group-index ≡ length l.groups;
  rules : map rule_of l.out.items ++ rules_of_groups l.names l.left (length l.groups) (map (λ g. g.items) (drop l.group-index l.groups)) ≡ map rule_of l.fn.out.items ++ rules_of_groups l.names l.left (length l.groups) (map (λ g. g.items) l.groups);
}
