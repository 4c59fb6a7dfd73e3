use Rattle.std.proofs.Common.{◌⊎◌}
use Rattle.std.proofs.lemmas.Result.{on_ok_weaker, MatchResult-weaker}
use Rattle.outside_model.specs.Causes.{Rose}
use Rattle.words_model.specs.Words.{Job}
use Rattle.run_model.specs.Outside.{Stream, stream, disk}
use Rattle.run_model.specs.Outcome.{IsCheckOutcome}
use Rattle.run_model.specs.Runs.{MayOpen}
use Rattle.slif_cli.specs.Stops.{MayHave, JobStops}
use Rattle.slif_cli.specs.Tasks.{IsCheckJob}
use Rattle.slif_cli.proofs.JobLemmas.{checked, load_stops}
use Rattle.tellings.proofs.Stopping.{does_weaker, stops_weaker, passed_on}
use Rattle.slif_cli.proofs.top.check_grammar.Goals as goal

pub returns-clause-done : goal.returns-clause-done
returns-clause-done g c =
    let file = g.F.Files.told c.args.files.now in
    let b = c.in_ok-prepared.prepared in
    on_ok_weaker c.write_check-written.result
    (λ does job is_job left words asks. does_weaker (IsCheckOutcome b) (MayHave words file left) (checked words job c.args.name.now is_job asks file left b c.in_ok-prepared.ensures.read) _ _ does)
    c.write_check-written.ensures.done

pub returns-clause-stops : goal.returns-clause-stops
returns-clause-stops g c =
    let file = g.F.Files.told c.args.files.now in
    let b = c.in_ok-prepared.prepared in
    let before = g.F.Files.fault_count c.args.files.now in
    let after = g.F.Files.fault_count c.load_grammar.new.files in
    MatchResult-weaker c.write_check-written.result c.write_check-written.ensures.stops (λ _ x. x)
    (λ stop stops job is_job input words asks. stops_weaker (IsCheckOutcome b) (MayHave words file input.bytes) (checked words job c.args.name.now is_job asks file input.bytes b c.in_ok-prepared.ensures.read)
    (λ name. ⊥) (λ name. Rose before after × MayOpen words file name) ⊥ (Rose before after ⊎ Rose input.faults input.faults) (λ name x. absurd x) (λ x. absurd x)
    (stream g.O.Sink.contents g.O.Sink.fault_count c.args.out.now) (stream g.O.Sink.contents g.O.Sink.fault_count c.write_check-written.new.out) stop stops)

pub returns-in_err-prepared-clause-stops : goal.returns-in_err-prepared-clause-stops
returns-in_err-prepared-clause-stops g c =
    let files = disk g.F.Files.told g.F.Files.fault_count c.args.files.now in
    let files_after = disk g.F.Files.told g.F.Files.fault_count c.load_grammar.new.files in
    let out = stream g.O.Sink.contents g.O.Sink.fault_count c.args.out.now in
    let stop = c.in_err-prepared.field-0.0 in
    passed_on (λ stop. (job : Job) → IsCheckJob job c.args.name.now → (input : Stream) → JobStops job files files_after input input out out stop)
    c.from_residual.result stop c.from_residual.ensures.1
    (λ job is_job input words asks. load_stops words job asks files.file input.bytes c.args.name.now is_job.named files.faults files_after input.faults out stop c.in_err-prepared.ensures.stops)
