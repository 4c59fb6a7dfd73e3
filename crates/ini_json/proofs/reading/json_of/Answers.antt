use Rattle.std.proofs.lemmas.Result.{IfErr-weaker}
use Rattle.ini_json.specs.Texts.{IsNotDerived, IsRefusalOf, OfReading}
use Rattle.ini_json.proofs.reading.json_of.Goals as goal

pub returns-clause-refused : goal.returns-clause-refused
returns-clause-refused c =
    IfErr-weaker c.json_of_reading-json.result (IsNotDerived c.in_ok-reading.reading) (IsRefusalOf c.args.grammar.now c.args.text.now)
    (λ e is. OfReading c.in_ok-reading.reading c.in_ok-reading.ensures.read is) c.json_of_reading-json.ensures.refused
