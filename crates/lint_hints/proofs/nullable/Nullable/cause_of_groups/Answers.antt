use Rattle.std.proofs.Common.{sym, ap, ◌∙◌}
use Rattle.std.specs.Option.{option_map}
use Rattle.lint_hints.proofs.Firsts.{groups_found, groups_past}
use Rattle.lint_hints.specs.Found.{cause_of, causes_of, found_group}
use Rattle.lint_hints.proofs.nullable.Nullable.cause_of_groups.Goals as goal

pub returns-in-Some : goal.returns-in-Some
returns-in-Some c = groups_found (causes_of c.args.self.now) c.args.left.now (λ g. g.items) c.args.groups.now _ c.group-item.result _ c.loop-group-test.true c.group-item.is (c.in-Some.ensures ∙ ap (found_group (causes_of c.args.self.now) c.args.left.now) c.deref.ensures.value) c.loop-group.invariant

pub loop-group-preserved : goal.loop-group-preserved
loop-group-preserved c = groups_past (causes_of c.args.self.now) c.args.left.now (λ g. g.items) c.args.groups.now _ c.group-item.result c.loop-group-test.true c.group-item.is (sym (ap (option_map cause_of) c.in_default.is) ∙ (c.cause_of_group.ensures ∙ ap (found_group (causes_of c.args.self.now) c.args.left.now) c.deref.ensures.value)) c.loop-group.invariant
