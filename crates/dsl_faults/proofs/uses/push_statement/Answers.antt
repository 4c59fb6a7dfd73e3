use Rattle.std.proofs.Common.{map}
use Rattle.dsl_faults.specs.Uses.{used_of}
use Rattle.dsl_faults.proofs.UseLemmas.{rules_uses}
use Rattle.dsl_faults.proofs.uses.push_statement.Goals as goal

pub returns-in_ok-push-in-Rules : goal.returns-in_ok-push-in-Rules
returns-in_ok-push-in-Rules c =
    rules_uses c.push_groups.result (map used_of c.push_groups.new.uses.items) (map used_of c.push-in-Rules.new.uses.items) (map used_of c.args.uses.now.items) c.args.s.now c.in-Rules.left c.in-Rules.level c.in-Rules.groups
    c.in-Rules.is c.in_ok-push-in-Rules.ensures c.deref-in-Rules.result.now c.deref-in-Rules.ensures.value c.push_groups.ensures
