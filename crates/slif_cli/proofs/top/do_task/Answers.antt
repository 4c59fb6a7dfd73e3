use Rattle.std.proofs.Common.{inl, inr, ◌≡◌, ◌⊎◌, ap}
use Rattle.std.proofs.lemmas.Result.{on_ok_weaker, MatchResult-weaker}
use Rattle.outside_model.specs.Causes.{Rose}
use Rattle.words_model.specs.Words as model
use Rattle.words_model.specs.Words.{Asks}
use Rattle.words_model.specs.Words.InputFrom.{FileNamed}
use Rattle.run_model.specs.Outcome.{IsWorkOutcome, IsScriptOutcome}
use Rattle.run_model.specs.Outside.{stream}
use Rattle.run_model.specs.Runs.{MayOpen}
use Rattle.command_line.specs.Jobs.{job_of, task_of, names_told, telling_of, input_of}
use Rattle.slif_cli.specs.Stops.{MayHave, MayRead}
use Rattle.tellings.specs.Stops.{Does}
use Rattle.slif_cli.specs.Tasks.{IsCheckJob, IsTellJob, IsScriptJob, WorksWithin}
use Rattle.slif_cli.proofs.JobLemmas.{asks_names, asks_nothing, worked, works_within, checks_within, fitted_as, copied_some}
use Rattle.slif_cli.proofs.Within.{on_ok_both}
use Rattle.slif_cli.proofs.ScriptLemmas.{played, plays_within, reads_input, opens_input, asks_input}
use Rattle.tellings.proofs.Stopping.{does_weaker, stops_weaker}
use Rattle.slif_cli.proofs.top.do_task.Goals as goal

pub grammar_file-requires : goal.grammar_file-requires
grammar_file-requires g c =
    let (words, asks) = c.requires.asked in
    copied_some c.args.job.grammar (fitted_as words (job_of c.args.job) asks model.Check (ap task_of c.in-Check.is)).0

pub returns-in-Check-clause-done : goal.returns-in-Check-clause-done
returns-in-Check-clause-done g c =
    let is_job : IsCheckJob (job_of c.args.job) c.grammar_file.result.now = record { named = c.grammar_file.ensures; task = ap task_of c.in-Check.is } in
    on_ok_weaker c.check_grammar.result (λ does. does (job_of c.args.job) is_job (g.I.Source.left c.args.input.now)) c.check_grammar.ensures.done

pub returns-in-Check-clause-stops : goal.returns-in-Check-clause-stops
returns-in-Check-clause-stops g c =
    let is_job : IsCheckJob (job_of c.args.job) c.grammar_file.result.now = record { named = c.grammar_file.ensures; task = ap task_of c.in-Check.is } in
    MatchResult-weaker c.check_grammar.result c.check_grammar.ensures.stops (λ _ x. x)
    (λ stop stops. stops (job_of c.args.job) is_job (stream g.I.Source.left g.I.Source.fault_count c.args.input.now))

pub returns-in-Check-clause-asks : goal.returns-in-Check-clause-asks
returns-in-Check-clause-asks g c =
    λ words asks. asks_names words (job_of c.args.job) asks (g.F.Files.told c.args.files.now) (g.I.Source.left c.args.input.now) c.grammar_file.result.now c.grammar_file.ensures _ _ c.check_grammar.ensures.asks

pub returns-in-Check-clause-counted : goal.returns-in-Check-clause-counted
returns-in-Check-clause-counted g c =
    let is_job : IsCheckJob (job_of c.args.job) c.grammar_file.result.now = record { named = c.grammar_file.ensures; task = ap task_of c.in-Check.is } in
    let file = g.F.Files.told c.args.files.now in
    let left = g.I.Source.left c.args.input.now in
    on_ok_weaker c.check_grammar.result
    (λ does words asks. checks_within words (job_of c.args.job) c.grammar_file.result.now is_job asks file left (g.O.Sink.contents c.args.out.now) (g.O.Sink.contents c.check_grammar.new.out)
    c.args.steps.now c.args.steps.now (does (job_of c.args.job) is_job left words asks))
    c.check_grammar.ensures.done

pub grammar_file-grammar-requires : goal.grammar_file-grammar-requires
grammar_file-grammar-requires g c =
    let (words, asks) = c.requires.asked in
    copied_some c.args.job.grammar (fitted_as words (job_of c.args.job) asks (model.Tell (names_told c.in-Tell.given) (telling_of c.in-Tell.what)) (ap task_of c.in-Tell.is)).0

pub tell_by-requires-clause-somewhere : goal.tell_by-requires-clause-somewhere
tell_by-requires-clause-somewhere g c =
    let (words, asks) = c.requires.asked in
    (fitted_as words (job_of c.args.job) asks (model.Tell (names_told c.in-Tell.given) (telling_of c.in-Tell.what)) (ap task_of c.in-Tell.is)).1

pub tell_by-requires-clause-few : goal.tell_by-requires-clause-few
tell_by-requires-clause-few g c =
    let (words, asks) = c.requires.asked in
    (fitted_as words (job_of c.args.job) asks (model.Tell (names_told c.in-Tell.given) (telling_of c.in-Tell.what)) (ap task_of c.in-Tell.is)).2

pub returns-in-Tell-clause-done : goal.returns-in-Tell-clause-done
returns-in-Tell-clause-done g c =
    let is_job : IsTellJob (job_of c.args.job) c.grammar_file-grammar.result.now (input_of c.args.job.input) (names_told c.in-Tell.given) (telling_of c.in-Tell.what) = record { named = c.grammar_file-grammar.ensures; input = λ i. input_of c.args.job.input; task = ap task_of c.in-Tell.is } in
    on_ok_weaker c.tell_by.result (λ does. does (job_of c.args.job) is_job) c.tell_by.ensures.done

pub returns-in-Tell-clause-stops : goal.returns-in-Tell-clause-stops
returns-in-Tell-clause-stops g c =
    let is_job : IsTellJob (job_of c.args.job) c.grammar_file-grammar.result.now (input_of c.args.job.input) (names_told c.in-Tell.given) (telling_of c.in-Tell.what) = record { named = c.grammar_file-grammar.ensures; input = λ i. input_of c.args.job.input; task = ap task_of c.in-Tell.is } in
    MatchResult-weaker c.tell_by.result c.tell_by.ensures.stops (λ _ x. x) (λ stop stops. stops (job_of c.args.job) is_job)

pub returns-in-Tell-clause-asks : goal.returns-in-Tell-clause-asks
returns-in-Tell-clause-asks g c =
    let is_job : IsTellJob (job_of c.args.job) c.grammar_file-grammar.result.now (input_of c.args.job.input) (names_told c.in-Tell.given) (telling_of c.in-Tell.what) = record { named = c.grammar_file-grammar.ensures; input = λ i. input_of c.args.job.input; task = ap task_of c.in-Tell.is } in
    c.tell_by.ensures.asks (job_of c.args.job) is_job

pub returns-in-Tell-clause-input : goal.returns-in-Tell-clause-input
returns-in-Tell-clause-input g c =
    let is_job : IsTellJob (job_of c.args.job) c.grammar_file-grammar.result.now (input_of c.args.job.input) (names_told c.in-Tell.given) (telling_of c.in-Tell.what) = record { named = c.grammar_file-grammar.ensures; input = λ i. input_of c.args.job.input; task = ap task_of c.in-Tell.is } in
    elim c.tell_by.ensures.input [ inl same ↦ inl same | inr reads ↦ inr (reads (job_of c.args.job) is_job) ]

pub returns-in-Tell-clause-counted : goal.returns-in-Tell-clause-counted
returns-in-Tell-clause-counted g c =
    let is_job : IsTellJob (job_of c.args.job) c.grammar_file-grammar.result.now (input_of c.args.job.input) (names_told c.in-Tell.given) (telling_of c.in-Tell.what) = record { named = c.grammar_file-grammar.ensures; input = λ i. input_of c.args.job.input; task = ap task_of c.in-Tell.is } in
    on_ok_weaker c.tell_by.result (λ within. within (job_of c.args.job) is_job) c.tell_by.ensures.counted

pub work_of_size-requires : goal.work_of_size-requires
work_of_size-requires g c =
    let (words, asks) = c.requires.asked in
    (fitted_as words (job_of c.args.job) asks (model.Work c.in-Work.size) (ap task_of c.in-Work.is)).2

pub returns-in-Work-clause-done : goal.returns-in-Work-clause-done
returns-in-Work-clause-done g c =
    let size = c.in-Work.size in
    let file = g.F.Files.told c.args.files.now in
    let left = g.I.Source.left c.args.input.now in
    on_ok_weaker c.work_of_size.result
    (λ does words asks. does_weaker (IsWorkOutcome size) (MayHave words file left) (worked words (job_of c.args.job) size (ap task_of c.in-Work.is) asks file left) _ _ does) c.work_of_size.ensures.done

pub returns-in-Work-clause-stops : goal.returns-in-Work-clause-stops
returns-in-Work-clause-stops g c =
    let size = c.in-Work.size in
    let file = g.F.Files.told c.args.files.now in
    let left = g.I.Source.left c.args.input.now in
    let faults = g.F.Files.fault_count c.args.files.now in
    let input = g.I.Source.fault_count c.args.input.now in
    MatchResult-weaker c.work_of_size.result c.work_of_size.ensures.stops (λ _ x. x)
    (λ stop stops words asks. stops_weaker (IsWorkOutcome size) (MayHave words file left) (worked words (job_of c.args.job) size (ap task_of c.in-Work.is) asks file left)
    (λ name. ⊥) (λ name. Rose faults faults × MayOpen words file name) ⊥ (Rose faults faults ⊎ Rose input input) (λ name x. absurd x) (λ x. absurd x)
    (stream g.O.Sink.contents g.O.Sink.fault_count c.args.out.now) (stream g.O.Sink.contents g.O.Sink.fault_count c.work_of_size.new.out) stop stops)

pub returns-in-Work-clause-asks : goal.returns-in-Work-clause-asks
returns-in-Work-clause-asks g c = λ words asks. asks_nothing words (g.F.Files.told c.args.files.now) (g.I.Source.left c.args.input.now) (g.F.Files.asked c.args.files.now)

pub returns-in-Work-clause-counted : goal.returns-in-Work-clause-counted
returns-in-Work-clause-counted g c =
    let size = c.in-Work.size in
    let file = g.F.Files.told c.args.files.now in
    let left = g.I.Source.left c.args.input.now in
    on_ok_weaker c.work_of_size.result
    (λ both words asks. works_within words (job_of c.args.job) size (ap task_of c.in-Work.is) asks file left (g.O.Sink.contents c.args.out.now) (g.O.Sink.contents c.work_of_size.new.out)
    c.args.steps.now c.work_of_size.new.steps both) (on_ok_both
    (Does (IsWorkOutcome size) (g.O.Sink.contents c.args.out.now) (g.O.Sink.contents c.work_of_size.new.out)) (WorksWithin size c.args.steps.now c.work_of_size.new.steps)
    c.work_of_size.result c.work_of_size.ensures.done c.work_of_size.ensures.counted)

pub play_input-requires : goal.play_input-requires
play_input-requires g c =
    let (words, asks) = c.requires.asked in
    (fitted_as words (job_of c.args.job) asks model.Script (ap task_of c.in-Script.is)).1

pub returns-in-Script-clause-done : goal.returns-in-Script-clause-done
returns-in-Script-clause-done g c =
    let is_job : IsScriptJob (job_of c.args.job) (input_of c.args.job.input) = record { input = λ i. input_of c.args.job.input; task = ap task_of c.in-Script.is } in
    let from = input_of c.args.job.input in
    let file = g.F.Files.told c.args.files.now in
    let left = g.I.Source.left c.args.input.now in
    on_ok_weaker c.play_input.result
    (λ does words asks. does_weaker (MayRead IsScriptOutcome from file left) (MayHave words file left) (played words (job_of c.args.job) from is_job asks file left) _ _ does) c.play_input.ensures.done

pub returns-in-Script-clause-stops : goal.returns-in-Script-clause-stops
returns-in-Script-clause-stops g c =
    let is_job : IsScriptJob (job_of c.args.job) (input_of c.args.job.input) = record { input = λ i. input_of c.args.job.input; task = ap task_of c.in-Script.is } in
    let from = input_of c.args.job.input in
    let file = g.F.Files.told c.args.files.now in
    let left = g.I.Source.left c.args.input.now in
    let files = Rose (g.F.Files.fault_count c.args.files.now) (g.F.Files.fault_count c.play_input.new.files) in
    let input = Rose (g.I.Source.fault_count c.args.input.now) (g.I.Source.fault_count c.play_input.new.input) in
    MatchResult-weaker c.play_input.result c.play_input.ensures.stops (λ _ x. x)
    (λ stop stops words asks. stops_weaker (MayRead IsScriptOutcome from file left) (MayHave words file left) (played words (job_of c.args.job) from is_job asks file left)
    (λ asked. files × (from ≡ FileNamed asked)) (λ asked. files × MayOpen words file asked) (files ⊎ input) (files ⊎ input)
    (λ asked x. (x.0, opens_input words (job_of c.args.job) from is_job asks file left asked x.1)) (λ x. x)
    (stream g.O.Sink.contents g.O.Sink.fault_count c.args.out.now) (stream g.O.Sink.contents g.O.Sink.fault_count c.play_input.new.out) stop stops)

pub returns-in-Script-clause-asks : goal.returns-in-Script-clause-asks
returns-in-Script-clause-asks g c =
    let is_job : IsScriptJob (job_of c.args.job) (input_of c.args.job.input) = record { input = λ i. input_of c.args.job.input; task = ap task_of c.in-Script.is } in
    λ words asks. asks_input words (job_of c.args.job) (input_of c.args.job.input) is_job asks (g.F.Files.told c.args.files.now) (g.I.Source.left c.args.input.now) _ _ c.play_input.ensures.asks

pub returns-in-Script-clause-input : goal.returns-in-Script-clause-input
returns-in-Script-clause-input g c =
    let is_job : IsScriptJob (job_of c.args.job) (input_of c.args.job.input) = record { input = λ i. input_of c.args.job.input; task = ap task_of c.in-Script.is } in
    elim c.play_input.ensures.input [
      | inl same ↦ inl same
      | inr standard ↦ inr (λ words asks. reads_input words (job_of c.args.job) (input_of c.args.job.input) is_job asks (g.F.Files.told c.args.files.now) (g.I.Source.left c.args.input.now) standard)
    ]

pub returns-in-Script-clause-counted : goal.returns-in-Script-clause-counted
returns-in-Script-clause-counted g c =
    let is_job : IsScriptJob (job_of c.args.job) (input_of c.args.job.input) = record { input = λ i. input_of c.args.job.input; task = ap task_of c.in-Script.is } in
    let file = g.F.Files.told c.args.files.now in
    let left = g.I.Source.left c.args.input.now in
    on_ok_weaker c.play_input.result
    (λ does words asks. plays_within words (job_of c.args.job) (input_of c.args.job.input) is_job asks file left (g.O.Sink.contents c.args.out.now) (g.O.Sink.contents c.play_input.new.out)
    c.args.steps.now c.play_input.new.steps does) c.play_input.ensures.done
