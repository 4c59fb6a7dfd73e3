use Rattle.std.proofs.lemmas.Result.{IfOk-weaker}
use Rattle.ini_json.specs.Texts.{IsFirstJson}
use Rattle.ini_json.proofs.First.{AreAtFirst, at_first, first_json}
use Rattle.ini_json.proofs.reading.first_json.Goals as goal

pub returns-in-Ok : goal.returns-in-Ok
returns-in-Ok c =
    let at : AreAtFirst c.args.forest.now.read c.next.new.self =
    at_first c.args.forest.now c.in_ok-derivations.derivations c.next.new.self c.requires c.in_ok-derivations.ensures c.in_ok-next.ensures.read c.in_ok-next.ensures.forest c.in_ok-next.field-0 c.if-not-branch.false c.in_ok-next.ensures.answer c.known.ensures in
    IfOk-weaker c.json_of_file.result _ (IsFirstJson c.args.forest.now.read)
    (λ json is. first_json c.args.forest.now.read c.next.new.self at c.new-maker.result c.fold.new.semantics c.in-Ok.file json c.in-Ok.ensures.value is) c.json_of_file.ensures
