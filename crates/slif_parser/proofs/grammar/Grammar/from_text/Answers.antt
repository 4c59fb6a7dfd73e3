use Rattle.text_reading.specs.Refusals.{IsRefusedAt}
use Rattle.slif_parser.proofs.Telling.{grammar_told}
use Rattle.slif_parser.proofs.grammar.Grammar.from_text.Goals as goal

pub returns-in-Err-clause-refused : goal.returns-in-Err-clause-refused
returns-in-Err-clause-refused c = grammar_told (IsRefusedAt c.args.text.now) c.in-Err.refusal c.error_of.result c.error_of.ensures c.in-Err.ensures.refused
