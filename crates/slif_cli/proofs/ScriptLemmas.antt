-- What job `script` comes to, by its words and its input.
use Rattle.std.proofs.Common.{◌≡◌, ℕ, ◌≤◌, List, [], ◌∷◌, ◌++◌, ◌⊎◌, Option, IfSome, refl, sym, ap, subst, ◌∙◌, length, IsUtf8}
use Rattle.std.specs.Prelude.{option_to_list}
use Rattle.std.specs.Io.KnownBytes.{Appends}
use Rattle.outside_model.specs.Causes.{Rose}
use Rattle.outside_model.specs.Told.{ToldFile, MayHold, AsksAmong, AddsNames}
use Rattle.slif_base.proofs.Bytes.{appends_none}
use Rattle.grammar_model.specs.declared.limits.TheConstants.{LONGEST_INPUT}
use Rattle.language_model.specs.Building.{Built}
use Rattle.script_model.specs.Script.{AreAnswers}
use Rattle.words_model.specs.Words.{Task, Script, Job, InputFrom, Asks}
use Rattle.words_model.specs.Words.InputFrom.{Nowhere, StandardInput, FileNamed}
use Rattle.words_model.specs.Laws.{IsFitted}
use Rattle.words_model.proofs.Asked.{asks_once}
use Rattle.run_model.specs.Given.{AcceptedFor, names_of}
use Rattle.run_model.specs.Inputs.{IsInputText}
use Rattle.run_model.specs.Outcome.{Outcome, IsTaskOutcome, IsScriptOutcome, done, refused}
use Rattle.run_model.specs.Outcome.IsOutcome.{OfJob}
use Rattle.run_model.specs.Outcome.IsScriptOutcome.{TooLong, NotUtf8, Answered}
use Rattle.run_model.specs.Outside.{Stream}
use Rattle.run_model.specs.Runs.{MayOpen, InputMayBe, Supplied, AsksNames, ReadsInput, GoesOn}
use Rattle.run_model.specs.Runs.MayOpen.{OfInput}
use Rattle.run_model.specs.Runs.MayAsk.{ForNothing, ForInput}
use Rattle.run_model.specs.Within.{DoesWithin, RunsWithin}
use Rattle.marpa_script.specs.Written as script
use Rattle.marpa_script.specs.declared.refusal.ScriptRefusal.{ScriptRefusal}
use Rattle.marpa_script.specs.declared.refusal.ScriptRefusal.TheVariants.{WriteFault, NoMemory}
use Rattle.text_reading.specs.declared.refusal.Place.{Place}
use Rattle.text_reading.specs.Parts.{IsBrokenText}
use Rattle.tellings.specs.Stops.{Does, AppendsPrefixOf, StopsAt, WriteStops, Prefix, refusal_outcome}
use Rattle.slif_cli.specs.Stops.{script_stop, MayHave, MayRead, ReadStops, names_from}
use Rattle.slif_cli.specs.Tasks.{IsScriptJob}
use Rattle.tellings.specs.declared.stop.Stop.{Stop}
use Rattle.slif_cli.proofs.JobLemmas.{fitted_as}
use Rattle.slif_cli.proofs.Within.{runs_within}
use Rattle.tellings.proofs.Stopping.{does_weaker, stops_as, of_input, nothing_appended}

-- THE INPUT

-- the bytes were not read
pub unread : (from : InputFrom) (file : List ℕ → ToldFile) (left : Option (List ℕ)) (Files Input : Type 0) (out : Stream) (stop : Stop) → ReadStops LONGEST_INPUT from file left Files Input stop →
    StopsAt (MayRead IsScriptOutcome from file left) (λ asked. Files × (from ≡ FileNamed asked)) (Files ⊎ Input) out out stop
unread from file left Files Input out stop stops =
    stops_as
    (of_input _ (λ r. MayRead IsScriptOutcome from file left (refusal_outcome r) × Appends out.bytes out.bytes [])
    (λ text x. (record { bytes = x.1.bytes; may_be = x.1.may_be; holds = TooLong x.1.holds (ap (refused 1) x.0) }, appends_none out.bytes)))
    (λ name x. (x, appends_none out.bytes)) (λ x. (x, appends_none out.bytes)) (λ x. absurd x) (λ x. nothing_appended (MayRead IsScriptOutcome from file left) out.bytes)
    stop stops

module _ (bytes : List ℕ) (within : length bytes ≤ LONGEST_INPUT) where
  -- they are no text
  pub refused_broken : (text : List ℕ) (place : Option Place) (expected : List ℕ) → IsBrokenText bytes text place expected → IsScriptOutcome bytes (refused 1 text)
  refused_broken text place expected broken = NotUtf8 broken.at (record { within = within; broken = broken.broken; prefix = broken.prefix }) (ap (refused 1) broken.told)

  module _ (utf8 : IsUtf8 bytes) (text : List ℕ) (same : text ≡ bytes) where
    answered : (answers : List (List ℕ)) → AreAnswers text answers → IsScriptOutcome bytes (done answers)
    answered answers are = Answered answers (record { within = within; utf8 = utf8 }) (subst (λ (t : List ℕ). AreAnswers t answers) same are) refl

    -- all answers were written
    pub all_answered : (before after : Option (List ℕ)) → script.Answered text before after → Does (IsScriptOutcome bytes) before after
    all_answered before after all = record { outcome = done all.answers; is = answered all.answers all.are; status_is = refl; line_is = refl; out = all.appends }

    part_answered : (before after : Option (List ℕ)) → script.BreaksOffIn text before after → AppendsPrefixOf (IsScriptOutcome bytes) before after
    part_answered before after part = record {
      text = part.prefix.bytes;
      prefix = Prefix (done part.answers) (answered part.answers part.are) part.prefix.rest part.prefix.split;
      appends = part.prefix.appends;
    }

    -- a prefix of them was
    pub broken_off : (before after : Stream) (refusal : ScriptRefusal) → (refusal ≡ WriteFault → Rose before.faults after.faults) → script.BreaksOffIn text before.bytes after.bytes →
        WriteStops (IsScriptOutcome bytes) before after (script_stop refusal)
    broken_off before after WriteFault rose part = (rose refl, part_answered before.bytes after.bytes part)
    broken_off before after NoMemory rose part = part_answered before.bytes after.bytes part

-- THE JOB

module _ (words : List (List ℕ)) (job : Job) (from : InputFrom) (is_job : IsScriptJob job from) (asks : Asks words job) (file : List ℕ → ToldFile) (left : Option (List ℕ)) where
  fitted : IsFitted Script job.grammar job.input
  fitted = fitted_as words job asks Script is_job.task

  -- the job goes on to its input, since it needs no grammar
  no_grammar : (P : List ℕ → Type 0) → IfSome job.grammar P
  no_grammar P = subst (λ (o : Option (List ℕ)). IfSome o P) (sym fitted.0) tt

  goes_on : GoesOn job file
  goes_on = record { grammar = []; held = no_grammar (λ n. MayHold (file n) []); accepted = no_grammar (λ _. (b : Built) × AcceptedFor (names_of job.task) [] b) }

  supplied : (bytes : List ℕ) → InputMayBe from file left bytes → Supplied words file left [] bytes
  supplied bytes may_be = record {
    grammar_held = λ other others. subst (λ (j : Job). IfSome j.grammar (λ n. MayHold (file n) [])) (asks_once words job other asks others) (no_grammar (λ n. MayHold (file n) []));
    input_held = λ other others goes. subst (λ (j : Job). InputMayBe j.input file left bytes) (asks_once words job other asks others)
        (subst (λ (f : InputFrom). InputMayBe f file left bytes) (sym is_job.input) may_be);
  }

  pub played : (o : Outcome) → MayRead IsScriptOutcome from file left o → MayHave words file left o
  played o may = (
    record {
      grammar = [];
      input = may.bytes;
      outcome = o;
      supplied = supplied may.bytes may.may_be;
      is_outcome = OfJob job asks (subst (λ (t : Task). IsTaskOutcome t [] may.bytes o) (sym is_job.task) may.holds);
    },
    refl,
  )

  -- its steps are not told
  pub plays_within : (out out_after : Option (List ℕ)) (before after : ℕ) → Does (MayRead IsScriptOutcome from file left) out out_after → RunsWithin words file left out out_after before after
  plays_within out out_after before after d =
      let e = does_weaker (MayRead IsScriptOutcome from file left) (MayHave words file left) played out out_after d in
      runs_within words job asks file left out out_after before after e (subst (λ (t : Task). DoesWithin t e.is.0.grammar e.is.0.input before after) (sym is_job.task) tt)

  pub reads_input : from ≡ StandardInput → ReadsInput words file
  reads_input standard = record { job = job; asks = asks; standard = is_job.input ∙ standard; goes_on = goes_on }

  pub opens_input : (asked : List ℕ) → from ≡ FileNamed asked → MayOpen words file asked
  opens_input asked is = OfInput job asks (is_job.input ∙ is) goes_on

  asks_none : (old new : Option (List (List ℕ))) (asked rest : List (List ℕ)) → [] ≡ asked ++ rest → AddsNames old new asked → AsksNames words file old new
  asks_none old new [] rest split adds = record { names = []; may_ask = ForNothing refl; adds = adds }
  asks_none old new (a ∷ more) rest split adds = absurd (cc split)

  asks_one : (old new : Option (List (List ℕ))) (name : List ℕ) → from ≡ FileNamed name → (asked rest : List (List ℕ)) → name ∷ [] ≡ asked ++ rest → AddsNames old new asked → AsksNames words file old new
  asks_one old new name is [] rest split adds = record { names = []; may_ask = ForNothing refl; adds = adds }
  asks_one old new name is (a ∷ []) rest split adds = record {
    names = a ∷ [];
    may_ask = ForInput job a asks (is_job.input ∙ is ∙ ap FileNamed (let e : name ≡ a = cc split in e)) goes_on (ap (λ (o : Option (List ℕ)). option_to_list o ++ a ∷ []) (sym fitted.0));
    adds = adds;
  }
  asks_one old new name is (a ∷ b ∷ more) rest split adds = absurd (let e : [] ≡ b ∷ (more ++ rest) = cc split in cc e)

  asks_by : (from' : InputFrom) → from ≡ from' → (old new : Option (List (List ℕ))) → AsksAmong old new (names_from from') → AsksNames words file old new
  asks_by Nowhere is old new among = asks_none old new among.asked among.rest among.split among.adds
  asks_by StandardInput is old new among = asks_none old new among.asked among.rest among.split among.adds
  asks_by (FileNamed name) is old new among = asks_one old new name is among.asked among.rest among.split among.adds

  pub asks_input : (old new : Option (List (List ℕ))) → AsksAmong old new (names_from from) → AsksNames words file old new
  asks_input old new among = asks_by from refl old new among
