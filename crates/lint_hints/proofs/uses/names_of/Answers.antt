use Rattle.dsl_statement.specs.Statements.{statements_of}
use Rattle.lint_hints.proofs.Used.{used_is}
use Rattle.lint_hints.proofs.uses.names_of.Goals as goal

pub returns : goal.returns
returns c = used_is (statements_of c.args.statements.now) c.no_names-names.result c.put_all.new.self c.in_ok-uses.uses.items c.deref.result.now c.no_names-names.ensures c.in_ok-uses.ensures c.deref.ensures.value c.in_ok-put_all.ensures
