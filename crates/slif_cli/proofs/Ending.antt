-- How a run ends, by how its work ended and by what was told of it.
use Rattle.std.proofs.Common.{◌≡◌, ℕ, List, [], inl, inr, ◌⊎◌, refl, sym, ap, ◌∙◌, subst, arith}
use Rattle.std.specs.Io.KnownBytes.{Appends}
use Rattle.outside_model.specs.Causes.{Rose}
use Rattle.outside_model.specs.Told.{AppendsPrefix}
use Rattle.slif_base.proofs.Bytes.{appends_none}
use Rattle.language_model.specs.Building.{Built}
use Rattle.words_model.specs.Words.{Telling, Task}
use Rattle.words_model.specs.Words.Task.{Check, Tell, Work, Script}
use Rattle.run_model.specs.Outcome.{Outcome, IsOutcome, IsGrammarOutcome, IsTaskOutcome, IsInputOutcome, IsNamedOutcome, IsCheckOutcome, IsScriptOutcome, usage, done, refused}
use Rattle.run_model.specs.Outcome.IsOutcome.{NoJob, OfJob}
use Rattle.run_model.specs.Outcome.IsGrammarOutcome.{GrammarRefused, GrammarAccepted}
use Rattle.run_model.specs.Outcome.IsInputOutcome.{InputRefused, InputRead}
use Rattle.run_model.specs.Outcome.IsScriptOutcome.{TooLong, NotUtf8, Answered as AnsweredScript}
use Rattle.run_model.specs.Outside.{Outside}
use Rattle.run_model.specs.Runs.{Answers, Fault, fault_line, memory_line, HasCauseOf, ErrAtFault, Faults, RunsOut, IsQuiet, IsPrefixOf, Runs}
use Rattle.run_model.specs.Runs.IsPrefixOf.{Nothing, Prefix}
use Rattle.run_model.specs.Runs.Fault.{CannotOpen, CannotRead, CannotWrite}
use Rattle.run_model.specs.Runs.OutAtFault.{OutEmpty, OutBroken}
use Rattle.run_model.specs.Runs.ErrAtFault.{ErrWhole, ErrBroken}
use Rattle.run_model.proofs.Told.{IsPlain, plain_at, plain_told}
use Rattle.tellings.specs.Stops.{Does, IsPrefix, refusal_outcome}
use Rattle.slif_cli.specs.Stops.{MayHave, WorkStops, Tells, Reports}
use Rattle.tellings.specs.Stops.IsPrefix.{Nothing as NothingYet, Prefix as PrefixYet}
use Rattle.slif_cli.specs.Stops.Tells.{Whole, Part}
use Rattle.tellings.specs.declared.stop.Refusal.{Refusal}
use Rattle.tellings.specs.declared.stop.Refusal.TheVariants.{Usage, Grammar as BadGrammar, Input as BadInput}
use Rattle.tellings.specs.declared.stop.Stop.{Stop}
use Rattle.tellings.specs.declared.stop.Stop.TheVariants.{Refused, OpenFault, ReadFault, WriteFault, NoMemory}

-- the ways in which a run ends
data Ends (words : List (List ℕ)) (before after : Outside) (status : ℕ) : Type 0 where
  Answered : Answers words before after status → Ends words before after status
  Faulted : status ≡ 4 → Faults words before after → Ends words before after status
  RanOut : status ≡ 5 → RunsOut words before after → Ends words before after status

plain_input : (what : Telling) (b : Built) (given input : List ℕ) (outcome : Outcome) → IsInputOutcome what b given input outcome → IsPlain outcome
plain_input what b given input outcome (InputRefused text is of) = plain_at outcome (refused 1 text) of (λ e. omega arith) (λ e. omega arith)
plain_input what b given input outcome (InputRead pieces read told) = plain_told what b _ pieces outcome told

plain_over : (names : List (List ℕ)) (IsOver : Built → Outcome → Type 0) (grammar : List ℕ) (outcome : Outcome) → ((b : Built) → IsOver b outcome → IsPlain outcome) → IsGrammarOutcome names grammar IsOver outcome → IsPlain outcome
plain_over names IsOver grammar outcome each (GrammarRefused text refused_text is) = plain_at outcome (refused 3 text) is (λ e. omega arith) (λ e. omega arith)
plain_over names IsOver grammar outcome each (GrammarAccepted b accepted over) = each b over

plain_script : (input : List ℕ) (outcome : Outcome) → IsScriptOutcome input outcome → IsPlain outcome
plain_script input outcome (TooLong long is) = plain_at outcome _ is (λ e. omega arith) (λ e. omega arith)
plain_script input outcome (NotUtf8 at broken is) = plain_at outcome _ is (λ e. omega arith) (λ e. omega arith)
plain_script input outcome (AnsweredScript answers text are is) = plain_at outcome (done answers) is (λ e. omega arith) (λ e. omega arith)

plain_task : (task : Task) (grammar input : List ℕ) (outcome : Outcome) → IsTaskOutcome task grammar input outcome → IsPlain outcome
plain_task Check grammar input outcome of = plain_over [] IsCheckOutcome grammar outcome (λ b over. plain_at outcome (done over.lines) over.is (λ e. omega arith) (λ e. omega arith)) of
plain_task (Tell names what) grammar input outcome of = plain_over names (λ b. IsNamedOutcome what names b input) grammar outcome (λ b over. plain_input what b over.0 input outcome over.2) of
plain_task (Work size) grammar input outcome of = plain_at outcome _ of.is (λ e. omega arith) (λ e. omega arith)
plain_task Script grammar input outcome of = plain_script input outcome of

plain : (words : List (List ℕ)) (grammar input : List ℕ) (outcome : Outcome) → IsOutcome words grammar input outcome → IsPlain outcome
plain words grammar input outcome (NoJob none is) = plain_at outcome usage is (λ e. omega arith) (λ e. omega arith)
plain words grammar input outcome (OfJob job asks of) = plain_task job.task grammar input outcome of

module _ (words : List (List ℕ)) (before after : Outside) where
  err_told : (line : List ℕ) → Tells before.err after.err line → ErrAtFault words before after line
  err_told line (Whole whole) = ErrWhole whole
  err_told line (Part rose part) = ErrBroken rose [] part.bytes part.rest (Nothing refl) part.split part.appends

  memory_told : Tells before.err after.err memory_line
      → Appends before.err.bytes after.err.bytes memory_line ⊎ (Rose before.err.faults after.err.faults × AppendsPrefix before.err.bytes after.err.bytes memory_line)
  memory_told (Whole whole) = inl whole
  memory_told (Part rose part) = inr (rose, part)

  -- a prefix of the text of an outcome that a run may have
  prefix_of : (text : List ℕ) → IsPrefix (MayHave words before.files.file before.input.bytes) text → IsPrefixOf words before.files.file before.input.bytes (λ o. o.out) text
  prefix_of text (NothingYet e) = Nothing e
  prefix_of text (PrefixYet outcome has rest e) = Prefix has.0 rest (ap (λ (o : Outcome). o.out) has.1 ∙ e)

  -- the work was done, and nothing was told
  ends_done : Does (MayHave words before.files.file before.input.bytes) before.out.bytes after.out.bytes → before.err.bytes ≡ after.err.bytes → Ends words before after 0
  ends_done done same =
      let is = done.is.1 in
      let no_line : done.is.0.outcome.line ≡ [] = ap (λ (o : Outcome). o.line) is ∙ done.line_is in
      Answered (record {
        may = done.is.0;
        status_is = sym (ap (λ (o : Outcome). o.status) is ∙ done.status_is);
        out = subst (λ (o : Outcome). Appends before.out.bytes after.out.bytes o.out) (sym is) done.out;
        err = subst (λ l. Appends before.err.bytes l done.is.0.outcome.line) same (subst (Appends before.err.bytes before.err.bytes) (sym no_line) (appends_none before.err.bytes));
      })

  refused_out : (refusal : Refusal) → (refusal_outcome refusal).out ≡ []
  refused_out Usage = refl
  refused_out (BadGrammar text) = refl
  refused_out (BadInput text) = refl

  -- the work stopped, and it was told
  ends_stop : (status : ℕ) (stop : Stop)
      → WorkStops words before.files after.files before.input after.input before.out after.out stop
      → Reports before.err after.err status stop → Ends words before after status
  ends_stop status (Refused refusal) stops (inl told) = Answered (record {
    may = stops.0.0;
    status_is = told.0 ∙ sym (ap (λ (o : Outcome). o.status) stops.0.1);
    out = subst (Appends before.out.bytes after.out.bytes) (sym (ap (λ (o : Outcome). o.out) stops.0.1 ∙ refused_out refusal)) stops.1;
    err = subst (λ (o : Outcome). Appends before.err.bytes after.err.bytes o.line) (sym stops.0.1) told.1;
  })
  ends_stop status (Refused refusal) stops (inr (inr told)) = RanOut told.0 (record { text = []; prefix = Nothing refl; out = stops.1; err = memory_told told.1 })
  ends_stop status (Refused refusal) stops (inr (inl told)) = Faulted told.0 (record {
    fault = CannotWrite;
    cause = inr told.1.rose;
    out = OutEmpty stops.1;
    err = ErrBroken told.1.rose told.1.text told.1.other_text told.1.other_rest
        (Prefix stops.0.0 told.1.rest (ap (λ (o : Outcome). o.line) stops.0.1 ∙ told.1.split)) told.1.other_split told.1.appends;
  })
  ends_stop status (OpenFault name) stops (inl told) = Faulted told.0 (record {
    fault = CannotOpen name.now;
    cause = stops.0;
    out = OutEmpty stops.1;
    err = err_told (fault_line (CannotOpen name.now)) told.1;
  })
  ends_stop status (OpenFault name) stops (inr told) = RanOut told.0 (record { text = []; prefix = Nothing refl; out = stops.1; err = memory_told told.1 })
  ends_stop status ReadFault stops told = Faulted told.0 (record {
    fault = CannotRead;
    cause = stops.0;
    out = OutEmpty stops.1;
    err = err_told (fault_line CannotRead) told.1;
  })
  ends_stop status WriteFault stops told = Faulted told.0 (record {
    fault = CannotWrite;
    cause = inl stops.0;
    out = OutBroken stops.0 stops.1.text (prefix_of stops.1.text stops.1.prefix) stops.1.appends;
    err = err_told (fault_line CannotWrite) told.1;
  })
  ends_stop status NoMemory stops told = RanOut told.0 (record { text = stops.text; prefix = prefix_of stops.text stops.prefix; out = stops.appends; err = memory_told told.1 })

  -- whose count rose at a fault, if none did
  not_quiet : Faults words before after → IsQuiet before after → ⊥
  not_quiet faults quiet = unquiet faults.fault faults.cause where
    unquiet : (fault : Fault) → HasCauseOf words before after fault → ⊥
    unquiet (CannotOpen name) cause = quiet.files cause.0
    unquiet CannotRead cause = elim cause [ inl rose ↦ quiet.files rose | inr rose ↦ quiet.input rose ]
    unquiet CannotWrite cause = elim cause [ inl rose ↦ quiet.out rose | inr rose ↦ quiet.err rose ]

  runs_from : (status : ℕ) → Ends words before after status → Runs words before after status
  runs_from status (Answered answers) =
      let is_plain : IsPlain answers.may.outcome = plain words answers.may.grammar answers.may.input answers.may.outcome answers.may.is_outcome in
      record {
        answer = λ no_fault no_memory. answers;
        fault = λ e. absurd (is_plain.no_fault (sym answers.status_is ∙ e));
        memory = λ e. absurd (is_plain.no_memory (sym answers.status_is ∙ e));
        complete = λ quiet no_memory. answers;
      }
  runs_from status (Faulted is faults) = record {
    answer = λ no_fault no_memory. absurd (no_fault is);
    fault = λ e. faults;
    memory = λ e. absurd (omega (arith, is, e));
    complete = λ quiet no_memory. absurd (not_quiet faults quiet);
  }
  runs_from status (RanOut is runs_out) = record {
    answer = λ no_fault no_memory. absurd (no_memory is);
    fault = λ e. absurd (omega (arith, is, e));
    memory = λ e. runs_out;
    complete = λ quiet no_memory. absurd (no_memory is);
  }

  -- the work was done, and nothing was told
  pub runs_done : Does (MayHave words before.files.file before.input.bytes) before.out.bytes after.out.bytes → before.err.bytes ≡ after.err.bytes → Runs words before after 0
  runs_done done same = runs_from 0 (ends_done done same)

  -- the work stopped, and it was told
  pub runs_stop : (status : ℕ) (stop : Stop)
      → WorkStops words before.files after.files before.input after.input before.out after.out stop
      → Reports before.err after.err status stop → Runs words before after status
  runs_stop status stop stops told = runs_from status (ends_stop status stop stops told)
