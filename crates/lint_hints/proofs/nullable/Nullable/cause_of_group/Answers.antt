use Rattle.std.proofs.Common.{sym, ap, ◌∙◌}
use Rattle.std.specs.Option.{option_map}
use Rattle.lint_hints.proofs.Firsts.{group_found, group_past}
use Rattle.lint_hints.specs.Found.{cause_of, causes_of}
use Rattle.lint_hints.proofs.nullable.Nullable.cause_of_group.Goals as goal

pub returns-in-Some : goal.returns-in-Some
returns-in-Some c = group_found (causes_of c.args.self.now) c.args.left.now c.args.group.now _ c.alternative-item.result _ c.loop-alternative-test.true c.alternative-item.is c.in-Some.ensures c.loop-alternative.invariant

pub loop-alternative-preserved : goal.loop-alternative-preserved
loop-alternative-preserved c = group_past (causes_of c.args.self.now) c.args.left.now c.args.group.now _ c.alternative-item.result c.loop-alternative-test.true c.alternative-item.is (sym (ap (option_map cause_of) c.in_default.is) ∙ c.cause_of_alternative.ensures) c.loop-alternative.invariant
