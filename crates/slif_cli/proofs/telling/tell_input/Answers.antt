use Rattle.std.proofs.Common.{◌⊎◌, ◌≡◌, ℕ, subst}
use Rattle.std.proofs.lemmas.Result.{on_ok_weaker, MatchResult-weaker}
use Rattle.outside_model.specs.Causes.{Rose}
use Rattle.words_model.specs.Words.InputFrom.{FileNamed}
use Rattle.run_model.specs.Outside.{stream}
use Rattle.run_model.specs.Outcome.{IsInputOutcome}
use Rattle.run_model.specs.Runs.{InputMayBe}
use Rattle.run_model.specs.Within.{InputWithin}
use Rattle.tellings.specs.Stops.{Does, StopsAt}
use Rattle.slif_cli.specs.Stops.{MayRead, ReadStops}
use Rattle.command_line.specs.Jobs.{telling_of, input_of}
use Rattle.tellings.proofs.Stopping.{does_weaker, stops_weaker, passed_on}
use Rattle.slif_cli.proofs.TaskLemmas.{may_read, unread}
use Rattle.slif_cli.proofs.Within.{on_ok_both}
use Rattle.slif_cli.proofs.telling.tell_input.Goals as goal

pub returns-clause-done : goal.returns-clause-done
returns-clause-done g c =
    let b = c.args.prepared.now in
    let given = c.args.lexemes.now in
    let from = input_of c.args.from in
    let file = g.F.Files.told c.args.files.now in
    let left = g.I.Source.left c.args.input.now in
    let may_be : InputMayBe from file left c.in_ok-bytes.bytes.items = c.in_ok-bytes.ensures.read in
    on_ok_weaker c.tell_bytes.result
    (does_weaker (IsInputOutcome (telling_of c.args.what) b given c.in_ok-bytes.bytes.items) (MayRead (IsInputOutcome (telling_of c.args.what) b given) from file left) (may_read (IsInputOutcome (telling_of c.args.what) b given) from file left c.in_ok-bytes.bytes.items may_be) _ _)
    c.tell_bytes.ensures.done

pub returns-clause-stops : goal.returns-clause-stops
returns-clause-stops g c =
    let b = c.args.prepared.now in
    let given = c.args.lexemes.now in
    let from = input_of c.args.from in
    let file = g.F.Files.told c.args.files.now in
    let left = g.I.Source.left c.args.input.now in
    let may_be : InputMayBe from file left c.in_ok-bytes.bytes.items = c.in_ok-bytes.ensures.read in
    let files = Rose (g.F.Files.fault_count c.args.files.now) (g.F.Files.fault_count c.read_bytes.new.files) in
    let input = Rose (g.I.Source.fault_count c.args.input.now) (g.I.Source.fault_count c.read_bytes.new.input) in
    MatchResult-weaker c.tell_bytes.result c.tell_bytes.ensures.stops (λ _ x. x)
    (λ stop. stops_weaker (IsInputOutcome (telling_of c.args.what) b given c.in_ok-bytes.bytes.items) (MayRead (IsInputOutcome (telling_of c.args.what) b given) from file left) (may_read (IsInputOutcome (telling_of c.args.what) b given) from file left c.in_ok-bytes.bytes.items may_be)
    (λ asked. ⊥) (λ asked. files × (from ≡ FileNamed asked)) ⊥ (files ⊎ input) (λ asked x. absurd x) (λ x. absurd x)
    (stream g.O.Sink.contents g.O.Sink.fault_count c.args.out.now) (stream g.O.Sink.contents g.O.Sink.fault_count c.tell_bytes.new.out) stop)

pub returns-in_err-bytes-clause-stops : goal.returns-in_err-bytes-clause-stops
returns-in_err-bytes-clause-stops g c =
    let b = c.args.prepared.now in
    let given = c.args.lexemes.now in
    let what = telling_of c.args.what in
    let from = input_of c.args.from in
    let file = g.F.Files.told c.args.files.now in
    let left = g.I.Source.left c.args.input.now in
    let files = Rose (g.F.Files.fault_count c.args.files.now) (g.F.Files.fault_count c.read_bytes.new.files) in
    let input = Rose (g.I.Source.fault_count c.args.input.now) (g.I.Source.fault_count c.read_bytes.new.input) in
    let before = stream g.O.Sink.contents g.O.Sink.fault_count c.args.out.now in
    let stop = c.in_err-bytes.field-0.0 in
    passed_on (StopsAt (MayRead (IsInputOutcome what b given) from file left) (λ asked. files × (from ≡ FileNamed asked)) (files ⊎ input) before before)
    c.from_residual.result stop c.from_residual.ensures.1 (unread what b given from file left files input before stop
    (subst (λ (n : ℕ). ReadStops n from file left files input stop) c.limit_with-limit.ensures c.in_err-bytes.ensures.stops))

pub returns-clause-counted : goal.returns-clause-counted
returns-clause-counted g c =
    let from = input_of c.args.from in
    let file = g.F.Files.told c.args.files.now in
    let left = g.I.Source.left c.args.input.now in
    let may_be : InputMayBe from file left c.in_ok-bytes.bytes.items = c.in_ok-bytes.ensures.read in
    on_ok_weaker c.tell_bytes.result (λ both. record { bytes = c.in_ok-bytes.bytes.items; may_be = may_be; holds = both }) (on_ok_both
    (Does (IsInputOutcome (telling_of c.args.what) c.args.prepared.now c.args.lexemes.now c.in_ok-bytes.bytes.items) (g.O.Sink.contents c.args.out.now) (g.O.Sink.contents c.tell_bytes.new.out))
    (InputWithin (telling_of c.args.what) c.args.prepared.now c.args.lexemes.now c.in_ok-bytes.bytes.items c.args.steps.now c.tell_bytes.new.steps) c.tell_bytes.result c.tell_bytes.ensures.done c.tell_bytes.ensures.counted)
