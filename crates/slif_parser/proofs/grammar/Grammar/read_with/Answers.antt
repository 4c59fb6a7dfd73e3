use Rattle.std.proofs.Common.{subst}
use Rattle.text_reading.specs.Refusals.{IsInputRefusedAt}
use Rattle.slif_parser.specs.Errors.{TellsInput}
use Rattle.slif_parser.proofs.Telling.{input_told}
use Rattle.slif_parser.proofs.grammar.Grammar.read_with.Goals as goal

pub returns-in-Err-clause-refused : goal.returns-in-Err-clause-refused
returns-in-Err-clause-refused g c =
    subst (λ b. TellsInput (IsInputRefusedAt b c.args.lexemes.now c.args.input.now) c.error_of.result) c.self.view_is
    (input_told (IsInputRefusedAt c.self.inside.prepared c.args.lexemes.now c.args.input.now) c.in-Err.refusal c.error_of.result c.error_of.ensures c.in-Err.ensures.refused)
