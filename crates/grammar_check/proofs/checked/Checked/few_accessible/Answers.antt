use Rattle.std.proofs.Common.{subst}
use Rattle.slot_analysis.specs.Few.{FewAreAccessible}
use Rattle.grammar_check.proofs.checked.Checked.few_accessible.Goals as goal

pub returns : goal.returns
returns c = subst FewAreAccessible c.self.view_is c.few_accessible.ensures
