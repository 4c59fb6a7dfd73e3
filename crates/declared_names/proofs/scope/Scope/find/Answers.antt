use Rattle.declared_names.proofs.Found.{is_found}
use Rattle.std.proofs.Common.{◌∙◌}
use Rattle.declared_names.proofs.scope.Scope.find.Goals as goal

pub returns : goal.returns
returns c = is_found c.args.self.now c.args.name.now c.copied.result (c.copied.ensures ∙ c.get.ensures.value)
