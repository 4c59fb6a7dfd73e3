-- What the words, the files and the input come to.
use Rattle.std.proofs.Common.{◌≡◌, ℕ, List, [], ◌∷◌, ◌++◌, Option, inl, inr, ◌⊎◌, refl, subst, Some, None, IfSome, ◌∙◌, ap, sym, append-nil}
use Rattle.std.specs.Prelude.{IsTrue, is_some, option_copied}
use Rattle.std.specs.Borrow.{Bor}
use Rattle.std.specs.Io.KnownBytes.{Appends}
use Rattle.outside_model.specs.Causes.{Rose}
use Rattle.outside_model.specs.Told.{ToldFile, MayHold, FileHolds, AsksAmong, AddsNames}
use Rattle.slif_base.proofs.Bytes.{appends_none}
use Rattle.language_model.specs.Building.{Built}
use Rattle.words_model.specs.Words.{Task, InputFrom, Nowhere, Job, Asks, AskNothing}
use Rattle.words_model.specs.Words.Task.{Check, Tell, Work, Script}
use Rattle.words_model.specs.Laws.{IsFitted}
use Rattle.words_model.proofs.Fitted.{jobs_are_fitted}
use Rattle.words_model.proofs.Asked.{asks_once, not_both}
use Rattle.run_model.specs.Refused.{Accepted, IsRefused}
use Rattle.run_model.specs.Given.{AcceptedFor, IsRefusedFor, ForGrammar, names_of}
use Rattle.run_model.specs.Outcome.{Outcome, IsTaskOutcome, IsCheckOutcome, IsWorkOutcome, usage, refused}
use Rattle.run_model.specs.Outcome.IsOutcome.{NoJob, OfJob}
use Rattle.run_model.specs.Outcome.IsGrammarOutcome.{GrammarRefused, GrammarAccepted}
use Rattle.run_model.specs.Outside.{Stream, Disk}
use Rattle.run_model.specs.Runs.{Accepts, InputMayBe, Supplied, AsksNames}
use Rattle.run_model.specs.Within.{DoesWithin, RunsWithin}
use Rattle.run_model.specs.Runs.MayOpen.{OfGrammar}
use Rattle.run_model.specs.Runs.MayAsk.{ForNothing, ForGrammar}
use Rattle.run_model.proofs.Accepted.{for_none, not_refused}
use Rattle.tellings.specs.Stops.{Does, refusal_outcome}
use Rattle.slif_cli.specs.Stops.{LoadStops, MayHave, WorkStops}
use Rattle.slif_cli.specs.Tasks.{WorksWithin, IsCheckJob}
use Rattle.tellings.specs.declared.stop.Stop.{Stop}
use Rattle.slif_cli.proofs.GrammarLaws.{grammar_laws}
use Rattle.tellings.proofs.Stopping.{does_weaker, stops_as, of_grammar, nothing_appended}
use Rattle.slif_cli.proofs.Within.{runs_within}

-- what is so of a job that is asked for, by its task
pub fitted_as : (words : List (List ℕ)) (job : Job) → Asks words job → (task : Task) → job.task ≡ task → IsFitted task job.grammar job.input
fitted_as words job asks task is = subst (λ (t : Task). IsFitted t job.grammar job.input) is (jobs_are_fitted words job asks)

pub copied_some : (name : Option (Bor (List ℕ))) → IsTrue (is_some (option_copied name)) → IsTrue (is_some name)
copied_some None some = some
copied_some (Some name) some = some

-- NO JOB IS ASKED FOR

module _ (words : List (List ℕ)) (file : List ℕ → ToldFile) (left : Option (List ℕ)) where
  pub not_asked : AskNothing words → MayHave words file left usage
  not_asked none = (
    record {
      grammar = [];
      input = [];
      outcome = usage;
      supplied = record {
        grammar_held = λ job asks. absurd (not_both words job asks none);
        input_held = λ job asks accepted. absurd (not_both words job asks none);
      };
      is_outcome = NoJob none refl;
    },
    refl,
  )

  pub asks_nothing : (old : Option (List (List ℕ))) → AsksNames words file old old
  asks_nothing old = record { names = []; may_ask = ForNothing refl; adds = adds_none old }
    where
      adds_none : (names : Option (List (List ℕ))) → AddsNames names names []
      adds_none None = tt
      adds_none (Some known) = sym (append-nil known)

-- A JOB WITH A GRAMMAR

-- the grammar of a task that has one may be refused
refused_of : (task : Task) (file : Option (List ℕ)) (from : InputFrom) → IsFitted task file from → (name : List ℕ) → file ≡ Some name → (text input told : List ℕ)
    → IsRefusedFor (names_of task) text told
    → IsTaskOutcome task text input (refused 3 told)
refused_of Check file from fitted name named text input told is = GrammarRefused told is refl
refused_of (Tell names what) file from fitted name named text input told is = GrammarRefused told is refl
refused_of (Work size) file from fitted name named text input told is = let bad : None ≡ Some name = sym fitted.0 ∙ named in absurd (cc bad)
refused_of Script file from fitted name named text input told is = let bad : None ≡ Some name = sym fitted.0 ∙ named in absurd (cc bad)

-- the job does not go on to its input with the text
abbrev pub GoesOnWithNone : Job → List ℕ → Type 0
GoesOnWithNone job text = (b : Built) → AcceptedFor (names_of job.task) text b → ⊥

module _ (words : List (List ℕ)) (job : Job) (asks : Asks words job) (file : List ℕ → ToldFile) (left : Option (List ℕ))
    (name : List ℕ) (named : job.grammar ≡ Some name) where
  pub held_by_all : (grammar : List ℕ) → MayHold (file name) grammar → (other : Job) → Asks words other → IfSome other.grammar (λ n. MayHold (file n) grammar)
  held_by_all grammar held other others =
      let here : IfSome job.grammar (λ n. MayHold (file n) grammar) = subst (λ (o : Option (List ℕ)). IfSome o (λ n. MayHold (file n) grammar)) (sym named) held in
      subst (λ (j : Job). IfSome j.grammar (λ n. MayHold (file n) grammar)) (asks_once words job other asks others) here

  -- no job of the words goes on with a text that the job does not go on with
  goes_on_with_none : {text : List ℕ} → GoesOnWithNone job text → (other : Job) → Asks words other → Accepts other text → ⊥
  goes_on_with_none {text} none other others goes =
      let here : Accepts job text = subst (λ (j : Job). Accepts j text) (asks_once words other job others asks) goes in
      let some : (b : Built) × AcceptedFor (names_of job.task) text b =
      subst (λ (o : Option (List ℕ)). IfSome o (λ _. (b : Built) × AcceptedFor (names_of job.task) text b)) named here in
      none some.0 some.1

  -- an outcome that asks for no input
  without_input : (text : List ℕ) → MayHold (file name) text → GoesOnWithNone job text → (o : Outcome) → IsTaskOutcome job.task text [] o → MayHave words file left o
  without_input text held none o is = (
    record {
      grammar = text;
      input = [];
      outcome = o;
      supplied = record {
        grammar_held = held_by_all text held;
        input_held = λ other others goes. absurd (goes_on_with_none none other others goes);
      };
      is_outcome = OfJob job asks is;
    },
    refl,
  )

  pub refused_for : (told text : List ℕ) → MayHold (file name) text → GoesOnWithNone job text → IsRefusedFor (names_of job.task) text told → MayHave words file left (refused 3 told)
  refused_for told text held none is =
      without_input text held none (refused 3 told) (refused_of job.task job.grammar job.input (jobs_are_fitted words job asks) name named text [] told is)

  refused_grammar : (told : List ℕ) → FileHolds (file name) (λ text. IsRefused text told) → MayHave words file left (refused 3 told)
  refused_grammar told held =
      refused_for told held.bytes held.may_hold (λ b goes. not_refused grammar_laws held.bytes b told goes.accepted held.holds) (ForGrammar held.holds)

  pub load_stops : (faults : ℕ) (files_after : Disk) (input_faults : ℕ) (out : Stream) (stop : Stop)
      → LoadStops name (file name) (Rose faults files_after.faults) stop
      → WorkStops words (record { file = file; faults = faults }) files_after (record { bytes = left; faults = input_faults }) (record { bytes = left; faults = input_faults }) out out stop
  load_stops faults files_after input_faults out stop stops =
      stops_as
      (of_grammar _ (λ r. MayHave words file left (refusal_outcome r) × Appends out.bytes out.bytes []) (λ text told. (refused_grammar text.items told, appends_none out.bytes)))
      (λ asked x. ((x.0, OfGrammar job asks (named ∙ ap (λ (n : List ℕ). Some n) (sym x.1))), appends_none out.bytes))
      (λ x. (inl x, appends_none out.bytes)) (λ x. absurd x) (λ x. nothing_appended (MayHave words file left) out.bytes)
      stop stops

  prefix_of_one : (asked rest : List (List ℕ)) (one : List ℕ) → one ∷ [] ≡ asked ++ rest → (asked ≡ []) ⊎ (asked ≡ one ∷ [])
  prefix_of_one [] rest one e = inl refl
  prefix_of_one (a ∷ []) rest one e = inr (cc)
  prefix_of_one (a ∷ b ∷ asked) rest one e = absurd (cc)

  pub asks_names : (old new : Option (List (List ℕ))) → AsksAmong old new (name ∷ []) → AsksNames words file old new
  asks_names old new among = record {
    names = among.asked;
    adds = among.adds;
    may_ask = elim (prefix_of_one among.asked among.rest name among.split) [ inl e ↦ ForNothing e | inr e ↦ ForGrammar job name asks named e ];
  }

-- CHECK

module _ (words : List (List ℕ)) (job : Job) (name : List ℕ) (is_job : IsCheckJob job name) (asks : Asks words job) (file : List ℕ → ToldFile) (left : Option (List ℕ)) where
  no_input : job.input ≡ Nowhere
  no_input = (fitted_as words job asks Check is_job.task).1

  pub checked : (b : Built) → FileHolds (file name) (λ bytes. Accepted bytes b) → (o : Outcome) → IsCheckOutcome b o → MayHave words file left o
  checked b held o is = (
    record {
      grammar = held.bytes;
      input = [];
      outcome = o;
      supplied = record {
        grammar_held = held_by_all words job asks file left name is_job.named held.bytes held.may_hold;
        input_held = λ other others goes. subst (λ (j : Job). InputMayBe j.input file left []) (asks_once words job other asks others)
            (subst (λ (f : InputFrom). InputMayBe f file left []) (sym no_input) tt);
      };
      is_outcome = OfJob job asks (subst (λ (t : Task). IsTaskOutcome t held.bytes [] o) (sym is_job.task) (GrammarAccepted b (for_none held.bytes b held.holds) is));
    },
    refl,
  )

  -- its steps are not told
  pub checks_within : (out out_after : Option (List ℕ)) (before after : ℕ) → Does (MayHave words file left) out out_after → RunsWithin words file left out out_after before after
  checks_within out out_after before after d =
      runs_within words job asks file left out out_after before after d (subst (λ (t : Task). DoesWithin t d.is.0.grammar d.is.0.input before after) (sym is_job.task) tt)

-- WORK

module _ (words : List (List ℕ)) (job : Job) (size : ℕ) (is_job : job.task ≡ Work size) (asks : Asks words job) (file : List ℕ → ToldFile) (left : Option (List ℕ)) where
  fitted : IsFitted (Work size) job.grammar job.input
  fitted = fitted_as words job asks (Work size) is_job

  supplied : Supplied words file left [] []
  supplied = record {
    grammar_held = λ other others. subst (λ (j : Job). IfSome j.grammar (λ n. MayHold (file n) [])) (asks_once words job other asks others)
        (subst (λ (o : Option (List ℕ)). IfSome o (λ n. MayHold (file n) [])) (sym fitted.0) tt);
    input_held = λ other others goes. subst (λ (j : Job). InputMayBe j.input file left []) (asks_once words job other asks others)
        (subst (λ (f : InputFrom). InputMayBe f file left []) (sym fitted.1) tt);
  }

  pub worked : (o : Outcome) → IsWorkOutcome size o → MayHave words file left o
  worked o is = (record { grammar = []; input = []; outcome = o; supplied = supplied; is_outcome = OfJob job asks (subst (λ (t : Task). IsTaskOutcome t [] [] o) (sym is_job) is) }, refl)

  pub works_within : (out out_after : Option (List ℕ)) (before after : ℕ) → Does (IsWorkOutcome size) out out_after × WorksWithin size before after → RunsWithin words file left out out_after before after
  works_within out out_after before after (d, within) =
      let e = does_weaker (IsWorkOutcome size) (MayHave words file left) worked out out_after d in
      runs_within words job asks file left out out_after before after e (subst (λ (t : Task). DoesWithin t e.is.0.grammar e.is.0.input before after) (sym is_job) within)
