use Rattle.std.proofs.Common.{map, ap}
use Rattle.dsl_statement.specs.Statements.{statements_of}
use Rattle.lint_hints.specs.Hints.{hint_of}
use Rattle.lint_hints.proofs.All.{all_hints}
use Rattle.lint_hints.proofs.hints.hints_of.Goals as goal

pub returns : goal.returns
returns c = all_hints (statements_of c.args.statements.now) _ _ _ _ _ (ap (map hint_of) c.new-hints.ensures.items) c.in_ok-look_at_latm.ensures c.in_ok-look_at_each.ensures c.in_ok-look_at_uses.ensures c.in_ok-look_at_sequences.ensures
