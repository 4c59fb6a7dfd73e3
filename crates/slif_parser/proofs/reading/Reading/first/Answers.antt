use Rattle.text_reading.specs.Refusals.{IsNoDerivation}
use Rattle.slif_parser.proofs.Telling.{input_told}
use Rattle.slif_parser.proofs.reading.Reading.first.Goals as goal

pub returns-in-Err-clause-refused : goal.returns-in-Err-clause-refused
returns-in-Err-clause-refused c =
    input_told (IsNoDerivation c.args.self.now.grammar c.args.self.now.lexemes c.args.ranking c.args.self.now.characters) c.in-Err.refusal c.error_of.result c.error_of.ensures c.in-Err.ensures.refused
