use Rattle.std.proofs.Common.{inr, inl, ◌⊎◌, ◌≡◌, ◌↔◌, ◌<◌, ◌≤◌, ℕ, List, length, subst, sym}
use Rattle.std.specs.Prelude.{IsTrue, is_some}
use Rattle.std.proofs.lemmas.Result.{on_ok_weaker, MatchResult-weaker}
use Rattle.outside_model.specs.Causes.{Rose}
use Rattle.words_model.specs.Words.InputFrom.{FileNamed}
use Rattle.run_model.specs.Outside.{stream, disk}
use Rattle.run_model.specs.Outcome.{IsInputOutcome}
use Rattle.run_model.specs.Given.{AreGiven}
use Rattle.run_model.specs.Runs.{MayOpen}
use Rattle.words_model.specs.Words.{Job}
use Rattle.slif_cli.specs.Stops.{ToldWithin, MayHave, MayRead, JobStops}
use Rattle.slif_cli.specs.Tasks.{IsTellJob}
use Rattle.command_line.specs.Jobs.{names_told, telling_of, input_of}
use Rattle.slif_cli.proofs.JobLemmas.{load_stops, asks_names}
use Rattle.slif_cli.proofs.Named.{few_given, both_given}
use Rattle.tellings.proofs.Stopping.{does_weaker, stops_weaker, passed_on}
use Rattle.slif_cli.proofs.TaskLemmas.{told, unnamed_stops, tells_within, read_before, held_before, rose_earlier, reads_input, opens_input, asks_both}
use Rattle.slif_cli.proofs.top.tell_by.Goals as goal

pub returns-clause-done : goal.returns-clause-done
returns-clause-done g c =
    let file = g.F.Files.told c.args.files.now in
    let left = g.I.Source.left c.args.input.now in
    let b = c.in_ok-prepared.prepared in
    let from = input_of c.args.from in
    let what = telling_of c.args.what in
    let names = names_told c.args.names in
    let given = c.deref.result.now in
    let are = subst (λ (xs : List ℕ). AreGiven b names xs) (sym c.deref.ensures.value) c.in_ok-lexemes.ensures.given in
    on_ok_weaker c.tell_input-told.result
    (λ does job is_job words asks. does_weaker (MayRead (IsInputOutcome what b given) from (g.F.Files.told c.load_grammar.new.files) left) (MayHave words file left)
    (λ o may. told words job c.args.grammar.now from names what is_job asks file left b c.in_ok-prepared.ensures.read given are o
    (read_before (IsInputOutcome what b given) from file (g.F.Files.told c.load_grammar.new.files) c.in_ok-prepared.ensures.held left o may)) _ _ does)
    c.tell_input-told.ensures.done

pub returns-clause-stops : goal.returns-clause-stops
returns-clause-stops g c =
    let file = g.F.Files.told c.args.files.now in
    let left = g.I.Source.left c.args.input.now in
    let b = c.in_ok-prepared.prepared in
    let from = input_of c.args.from in
    let what = telling_of c.args.what in
    let names = names_told c.args.names in
    let given = c.deref.result.now in
    let are = subst (λ (xs : List ℕ). AreGiven b names xs) (sym c.deref.ensures.value) c.in_ok-lexemes.ensures.given in
    let before = g.F.Files.fault_count c.args.files.now in
    let middle = g.F.Files.fault_count c.load_grammar.new.files in
    let after = g.F.Files.fault_count c.tell_input-told.new.files in
    let read = Rose (g.I.Source.fault_count c.args.input.now) (g.I.Source.fault_count c.tell_input-told.new.input) in
    let earlier = rose_earlier before middle after c.in_ok-prepared.ensures.later in
    MatchResult-weaker c.tell_input-told.result c.tell_input-told.ensures.stops (λ _ x. x)
    (λ stop stops job is_job words asks. stops_weaker (MayRead (IsInputOutcome what b given) from (g.F.Files.told c.load_grammar.new.files) left) (MayHave words file left)
    (λ o may. told words job c.args.grammar.now from names what is_job asks file left b c.in_ok-prepared.ensures.read given are o
    (read_before (IsInputOutcome what b given) from file (g.F.Files.told c.load_grammar.new.files) c.in_ok-prepared.ensures.held left o may))
    (λ asked. Rose middle after × (from ≡ FileNamed asked)) (λ asked. Rose before after × MayOpen words file asked) (Rose middle after ⊎ read) (Rose before after ⊎ read)
    (λ asked x. (earlier x.0, opens_input words job c.args.grammar.now from names what is_job asks file left b c.in_ok-prepared.ensures.read given are asked x.1))
    (λ x. elim x [ inl rose ↦ inl (earlier rose) | inr rose ↦ inr rose ])
    (stream g.O.Sink.contents g.O.Sink.fault_count c.args.out.now) (stream g.O.Sink.contents g.O.Sink.fault_count c.tell_input-told.new.out) stop stops)

pub returns-clause-asks : goal.returns-clause-asks
returns-clause-asks g c =
    λ job is_job words asks. asks_both words job c.args.grammar.now (input_of c.args.from) (names_told c.args.names) (telling_of c.args.what) is_job asks (g.F.Files.told c.args.files.now) (g.I.Source.left c.args.input.now) c.in_ok-prepared.prepared c.in_ok-prepared.ensures.read c.in_ok-lexemes.lexemes.items c.in_ok-lexemes.ensures.given
    _ _ _ c.in_ok-prepared.ensures.asked c.tell_input-told.ensures.asks

pub returns-clause-input : goal.returns-clause-input
returns-clause-input g c =
    elim c.tell_input-told.ensures.input [
      | inl same ↦ inl same
      | inr standard ↦ inr (λ job is_job words asks. reads_input words job c.args.grammar.now (input_of c.args.from) (names_told c.args.names) (telling_of c.args.what) is_job asks (g.F.Files.told c.args.files.now) (g.I.Source.left c.args.input.now) c.in_ok-prepared.prepared c.in_ok-prepared.ensures.read c.in_ok-lexemes.lexemes.items c.in_ok-lexemes.ensures.given standard)
    ]

pub returns-in_err-prepared-clause-stops : goal.returns-in_err-prepared-clause-stops
returns-in_err-prepared-clause-stops g c =
    let from = input_of c.args.from in
    let what = telling_of c.args.what in
    let files = disk g.F.Files.told g.F.Files.fault_count c.args.files.now in
    let files_after = disk g.F.Files.told g.F.Files.fault_count c.load_grammar.new.files in
    let input = stream g.I.Source.left g.I.Source.fault_count c.args.input.now in
    let out = stream g.O.Sink.contents g.O.Sink.fault_count c.args.out.now in
    let stop = c.in_err-prepared.field-0.0 in
    passed_on (λ stop. (job : Job) → IsTellJob job c.args.grammar.now from (names_told c.args.names) what → JobStops job files files_after input input out out stop)
    c.from_residual.result stop c.from_residual.ensures.1
    (λ job is_job words asks. load_stops words job asks files.file input.bytes c.args.grammar.now is_job.named files.faults files_after input.faults out stop c.in_err-prepared.ensures.stops)

pub returns-in_err-prepared-clause-asks : goal.returns-in_err-prepared-clause-asks
returns-in_err-prepared-clause-asks g c =
    λ job is_job words asks. asks_names words job asks (g.F.Files.told c.args.files.now) (g.I.Source.left c.args.input.now) c.args.grammar.now is_job.named _ _ c.load_grammar.ensures.asks

pub returns-clause-counted : goal.returns-clause-counted
returns-clause-counted g c =
    let file = g.F.Files.told c.args.files.now in
    let left = g.I.Source.left c.args.input.now in
    let b = c.in_ok-prepared.prepared in
    let from = input_of c.args.from in
    let what = telling_of c.args.what in
    let names = names_told c.args.names in
    let given = c.deref.result.now in
    let are = subst (λ (xs : List ℕ). AreGiven b names xs) (sym c.deref.ensures.value) c.in_ok-lexemes.ensures.given in
    let out = g.O.Sink.contents c.args.out.now in
    let out_after = g.O.Sink.contents c.tell_input-told.new.out in
    on_ok_weaker c.tell_input-told.result
    (λ within job is_job words asks. tells_within words job c.args.grammar.now from names what is_job asks file left b c.in_ok-prepared.ensures.read given are out out_after c.args.steps.now c.tell_input-told.new.steps
    (held_before from file (g.F.Files.told c.load_grammar.new.files) c.in_ok-prepared.ensures.held left (ToldWithin what b given out out_after c.args.steps.now c.tell_input-told.new.steps) within))
    c.tell_input-told.ensures.counted

pub tell_input-told-requires-clause-names : goal.tell_input-told-requires-clause-names
tell_input-told-requires-clause-names g c =
    subst (λ (xs : List ℕ). length xs ≤ 8) (sym c.deref.ensures.value)
    (few_given c.in_ok-prepared.prepared (names_told c.args.names) c.in_ok-lexemes.lexemes.items c.in_ok-lexemes.ensures.given c.requires.few)

pub tell_input-told-requires-clause-both : goal.tell_input-told-requires-clause-both
tell_input-told-requires-clause-both g c =
    subst (λ (xs : List ℕ). IsTrue (is_some c.args.hands.supplier) ↔ (0 < length xs)) (sym c.deref.ensures.value)
    (both_given c.in_ok-prepared.prepared c.args.names (is_some c.args.hands.supplier) c.in_ok-lexemes.lexemes.items c.requires.both c.in_ok-lexemes.ensures.given)

pub returns-in_err-lexemes-clause-stops : goal.returns-in_err-lexemes-clause-stops
returns-in_err-lexemes-clause-stops g c =
    let from = input_of c.args.from in
    let what = telling_of c.args.what in
    let names = names_told c.args.names in
    let files = disk g.F.Files.told g.F.Files.fault_count c.args.files.now in
    let files_after = disk g.F.Files.told g.F.Files.fault_count c.load_grammar.new.files in
    let input = stream g.I.Source.left g.I.Source.fault_count c.args.input.now in
    let out = stream g.O.Sink.contents g.O.Sink.fault_count c.args.out.now in
    let stop = c.in_err-lexemes.field-0.0 in
    passed_on (λ stop. (job : Job) → IsTellJob job c.args.grammar.now from names what → JobStops job files files_after input input out out stop)
    c.from_residual-in_err-lexemes.result stop c.from_residual-in_err-lexemes.ensures.1
    (λ job is_job words asks. unnamed_stops words job c.args.grammar.now from names what is_job asks files.file input.bytes c.in_ok-prepared.prepared c.in_ok-prepared.ensures.read
    files.faults files_after input.faults out stop c.in_err-lexemes.ensures.stops)

pub returns-in_err-lexemes-clause-asks : goal.returns-in_err-lexemes-clause-asks
returns-in_err-lexemes-clause-asks g c =
    λ job is_job words asks. asks_names words job asks (g.F.Files.told c.args.files.now) (g.I.Source.left c.args.input.now) c.args.grammar.now is_job.named _ _ c.load_grammar.ensures.asks
