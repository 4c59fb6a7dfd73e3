use Rattle.std.proofs.Common.{subst}
use Rattle.grammar_core.specs.Refusals.{Answers}
use Rattle.marpa_script.proofs.Granting.{name_granted}
use Rattle.marpa_script.proofs.building.answer_symbol.Goals as goal

pub granted-requires : goal.granted-requires
granted-requires c = subst (λ o. Answers o c.symbol_new.result) (name_granted c.args.w.now c.args.name.now c.requires.room) c.symbol_new.ensures.refusal
