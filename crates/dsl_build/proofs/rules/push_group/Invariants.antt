use Rattle.std.proofs.Common.{◌≡◌, ◌++◌, take, map}
use Rattle.grammar_core.specs.Written.{rule_of}
use Rattle.dsl_build.specs.Resolving.{plain_with}
use Rattle.dsl_build.proofs.rules.push_group.Given as goal

abbrev pub invariant-loop-alternative : goal.invariant-loop-alternative
invariant-loop-alternative l = map rule_of l.out.items ≡ map rule_of l.fn.out.items ++ map (plain_with l.names l.lhs l.level l.groups) (take l.alternative-index l.group)
