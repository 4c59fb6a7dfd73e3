use Rattle.text_reading.specs.Refusals.{IsRefusedAt}
use Rattle.run_model.specs.Jobs.{work_grammar}
use Rattle.slif_cli.proofs.Own.{grammar_memory, own_accepted}
use Rattle.slif_cli.proofs.working.own_grammar.Goals as goal

pub no_memory-requires : goal.no_memory-requires
no_memory-requires c = grammar_memory (IsRefusedAt work_grammar) own_accepted c.in-Err.refusal c.in-Err.ensures.refused
