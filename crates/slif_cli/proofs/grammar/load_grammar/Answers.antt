use Rattle.std.proofs.Common.{Err, ap, subst, sym}
use Rattle.outside_model.specs.Causes.{Rose}
use Rattle.outside_model.specs.Told.{MayHold}
use Rattle.tellings.specs.Refusals.{stop_for}
use Rattle.slif_cli.specs.Stops.{LoadStops}
use Rattle.slif_cli.proofs.Refusing.{load_stops_for, too_long_text}
use Rattle.tellings.proofs.Stopping.{passed_on}
use Rattle.slif_cli.proofs.grammar.load_grammar.Goals as goal

pub returns-in_err-read_grammar-in-Ok-clause-stops : goal.returns-in_err-read_grammar-in-Ok-clause-stops
returns-in_err-read_grammar-in-Ok-clause-stops g c =
    let name = c.args.name.now in
    let told = g.F.Files.told c.args.files.now name in
    let files = Rose (g.F.Files.fault_count c.args.files.now) (g.F.Files.fault_count c.read_named.new.files) in
    let held : MayHold told c.deref.result.now = subst (MayHold told) (sym c.deref.ensures.value) c.in-Ok.ensures.whole in
    let refusal = c.in_err-read_grammar-in-Ok.field-0.0 in
    passed_on (LoadStops name told files) c.from_residual.result (stop_for refusal) c.from_residual.ensures.1
    (load_stops_for name told files c.deref.result.now held refusal c.in_err-read_grammar-in-Ok.ensures.refused)

pub returns-in_ok-text-in-Err-TooLarge-clause-stops : goal.returns-in_ok-text-in-Err-TooLarge-clause-stops
returns-in_ok-text-in-Err-TooLarge-clause-stops g c =
    let told = g.F.Files.told c.args.files.now c.args.name.now in
    too_long_text told c.in_ok-text-in-Err-TooLarge.text.items (c.in-Err-TooLarge.ensures.large (ap Err c.in-Err-TooLarge.field-0-is)) c.in_ok-text-in-Err-TooLarge.ensures
