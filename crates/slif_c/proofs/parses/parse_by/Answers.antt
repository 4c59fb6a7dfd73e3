use Rattle.std.proofs.Common.{[]}
use Rattle.text_reading.specs.Refusals.{IsInputRefusedAt, IsNoDerivation}
use Rattle.slif_c.specs.Exports.{IsUnparsed, NotRead}
use Rattle.slif_c.proofs.Showing.{parsed}
use Rattle.slif_c.proofs.Telling.{not_derived, told_as, told_of}
use Rattle.slif_c.proofs.parses.parse_by.Goals as goal

pub returns-in-Ok-clause-parsed : goal.returns-in-Ok-clause-parsed
returns-in-Ok-clause-parsed c =
    parsed c.args.grammar.now c.args.input.now c.in-Ok.reading c.in-Ok.ensures.read c.args.ranking c.args.shown c.args.skip c.args.most c.derive-told.result c.derive-told.ensures.some

pub returns-in-Ok-clause-refused : goal.returns-in-Ok-clause-refused
returns-in-Ok-clause-refused c =
    told_of c.derive-told.result (IsNoDerivation c.in-Ok.reading.grammar c.in-Ok.reading.lexemes c.args.ranking c.in-Ok.reading.characters) (IsUnparsed c.args.grammar.now c.args.ranking c.args.input.now)
    (not_derived c.args.grammar.now c.args.ranking c.args.input.now c.in-Ok.reading c.in-Ok.ensures.read) c.derive-told.ensures.refused

pub returns-in-Err-clause-refused : goal.returns-in-Err-clause-refused
returns-in-Err-clause-refused c =
    told_as (IsInputRefusedAt c.args.grammar.now [] c.args.input.now) (IsUnparsed c.args.grammar.now c.args.ranking c.args.input.now) (λ text place expected refused. NotRead refused) c.in-Err.error c.in-Err.ensures.refused
