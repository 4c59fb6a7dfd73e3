use Rattle.std.proofs.Common.{◌<◌, length, rules}
use Rattle.std.proofs.lemmas.Result.{on_ok_weaker}
use Rattle.text_reading.proofs.InputLemmas.{names_after}
use Rattle.text_reading.proofs.inputs.append_names.Goals as goal

pub returns : goal.returns
returns c =
    let some : 0 < length c.args.symbols.now = search rules in
    on_ok_weaker c.append_others.result
    (names_after c.args.w.now c.args.symbols.now c.index-symbols-0.result c.args.text.now.items _ _ some c.index-symbols-0.is c.in_ok-append_name.ensures)
    c.append_others.ensures
