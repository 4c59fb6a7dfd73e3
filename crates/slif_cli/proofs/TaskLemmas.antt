-- What a job with an input comes to, by its words, its grammar and its input.
use Rattle.std.proofs.Common.{◌≡◌, ℕ, ◌≤◌, List, [], ◌∷◌, ◌++◌, Option, ◌⊎◌, refl, sym, subst, Some, None, IfSome, append_assoc, ◌∙◌, ap, arith, chars}
use Rattle.std.specs.Prelude.{option_to_list}
use Rattle.std.specs.Io.KnownBytes.{Appends}
use Rattle.outside_model.specs.Causes.{Rose}
use Rattle.outside_model.specs.Told.{ToldFile, MayHold, FileHolds, AsksAmong, AddsNames, SameFiles}
use Rattle.slif_base.proofs.Bytes.{appends_none}
use Rattle.language_model.specs.Building.{Built}
use Rattle.words_model.specs.Words.{Telling, Task, Job, InputFrom, Asks}
use Rattle.words_model.proofs.Asked.{asks_once}
use Rattle.words_model.specs.Words.InputFrom.{Nowhere, StandardInput, FileNamed}
use Rattle.run_model.specs.Refused.{Accepted}
use Rattle.run_model.specs.Given.{NamesLexeme, AreGiven, AcceptedFor, IsRefusedFor, ForName, names_of}
use Rattle.run_model.specs.Outcome.{Outcome, IsTaskOutcome, IsInputOutcome, refused}
use Rattle.run_model.specs.Outcome.IsInputOutcome.{InputRefused, InputRead}
use Rattle.run_model.specs.Outcome.IsOutcome.{OfJob}
use Rattle.run_model.specs.Outcome.IsGrammarOutcome.{GrammarAccepted}
use Rattle.run_model.specs.Inputs.{input_limit, IsInputText, TooLong}
use Rattle.run_model.specs.Outside.{Stream, Disk}
use Rattle.run_model.specs.Runs.{MayOpen, InputMayBe, Supplied, AsksNames, ReadsInput, GoesOn}
use Rattle.run_model.specs.Within.{DoesWithin, RunsWithin}
use Rattle.run_model.specs.Runs.MayOpen.{OfInput}
use Rattle.run_model.specs.Runs.MayAsk.{ForGrammar, ForInput}
use Rattle.run_model.proofs.Accepted.{one_built}
use Rattle.run_model.proofs.Given.{all_at, given_named}
use Rattle.tellings.specs.Stops.{StopsAt, refusal_outcome}
use Rattle.slif_cli.specs.Stops.{InputHolds, ToldWithin, MayHave, MayRead, ReadStops, WorkStops, names_from}
use Rattle.slif_cli.specs.Giving.{IsUnnamed, NamesStop}
use Rattle.tellings.specs.Telling.{TellsReading}
use Rattle.slif_cli.specs.Tasks.{IsTellJob}
use Rattle.tellings.specs.declared.stop.Stop.{Stop}
use Rattle.slif_cli.proofs.GrammarLaws.{grammar_laws}
use Rattle.slif_cli.proofs.JobLemmas.{GoesOnWithNone, held_by_all, refused_for}
use Rattle.slif_cli.proofs.Named.{first_among}
use Rattle.tellings.proofs.Stopping.{stops_as, of_grammar, of_input, nothing_appended}

-- THE INPUT

-- what is told of the characters is told of the bytes
pub input_told : (what : Telling) (b : Built) (given bytes : List ℕ) → IsInputText (input_limit given) bytes → (o : Outcome) → TellsReading what b given (chars bytes) o → IsInputOutcome what b given bytes o
input_told what b given bytes text o told = InputRead told.pieces (record { text = text; reading = told.reading }) told.tells

-- the bytes were not read
pub unread : (what : Telling) (b : Built) (given : List ℕ) (from : InputFrom) (file : List ℕ → ToldFile) (left : Option (List ℕ)) (Files Input : Type 0) (out : Stream) (stop : Stop) →
    ReadStops (input_limit given) from file left Files Input stop →
    StopsAt (MayRead (IsInputOutcome what b given) from file left) (λ asked. Files × (from ≡ FileNamed asked)) (Files ⊎ Input) out out stop
unread what b given from file left Files Input out stop stops =
    stops_as
    (of_input _ (λ r. MayRead (IsInputOutcome what b given) from file left (refusal_outcome r) × Appends out.bytes out.bytes [])
    (λ text x. (record { bytes = x.1.bytes; may_be = x.1.may_be; holds = InputRefused text.items (TooLong x.1.holds x.0) refl }, appends_none out.bytes)))
    (λ name x. (x, appends_none out.bytes)) (λ x. (x, appends_none out.bytes)) (λ x. absurd x) (λ x. nothing_appended (MayRead (IsInputOutcome what b given) from file left) out.bytes)
    stop stops

-- the bytes that were read may be those of the input
pub may_read : (P : List ℕ → Outcome → Type 0) (from : InputFrom) (file : List ℕ → ToldFile) (left : Option (List ℕ)) (bytes : List ℕ) → InputMayBe from file left bytes → (o : Outcome) → P bytes o → MayRead P from file left o
may_read P from file left bytes may_be o is = record { bytes = bytes; may_be = may_be; holds = is }

-- FILES THAT ARE TOLD AS BEFORE

same_may_be : (from : InputFrom) (old new : List ℕ → ToldFile) → SameFiles old new → (left : Option (List ℕ)) (bytes : List ℕ) → InputMayBe from new left bytes → InputMayBe from old left bytes
same_may_be Nowhere old new same left bytes may = may
same_may_be StandardInput old new same left bytes may = may
same_may_be (FileNamed name) old new same left bytes may = subst (λ (told : ToldFile). MayHold told bytes) (same name) may

pub read_before : (P : List ℕ → Outcome → Type 0) (from : InputFrom) (old new : List ℕ → ToldFile) → SameFiles old new → (left : Option (List ℕ)) (o : Outcome) → MayRead P from new left o → MayRead P from old left o
read_before P from old new same left o may = record { bytes = may.bytes; may_be = same_may_be from old new same left may.bytes may.may_be; holds = may.holds }

pub held_before : (from : InputFrom) (old new : List ℕ → ToldFile) → SameFiles old new → (left : Option (List ℕ)) (P : List ℕ → Type 0) → InputHolds from new left P → InputHolds from old left P
held_before from old new same left P holds = record { bytes = holds.bytes; may_be = same_may_be from old new same left holds.bytes holds.may_be; holds = holds.holds }

pub rose_earlier : (old mid new : ℕ) → old ≤ mid → Rose mid new → Rose old new
rose_earlier old mid new le rose = omega (arith, le, rose)

-- NAMES

adds_twice : (a b c : Option (List (List ℕ))) (xs ys : List (List ℕ)) → AddsNames a b xs → AddsNames b c ys → AddsNames a c (xs ++ ys)
adds_twice None b c xs ys p q = tt
adds_twice (Some k) None c xs ys p q = absurd p
adds_twice (Some k) (Some l) None xs ys p q = absurd q
adds_twice (Some k) (Some l) (Some m) xs ys p q = q ∙ ap (λ zs. zs ++ ys) p ∙ append_assoc k xs ys

-- THE JOB

module _ (words : List (List ℕ)) (job : Job) (name : List ℕ) (from : InputFrom) (names : List (List ℕ)) (what : Telling) (is_job : IsTellJob job name from names what) (asks : Asks words job)
    (file : List ℕ → ToldFile) (left : Option (List ℕ)) (b : Built) (held : FileHolds (file name) (λ bytes. Accepted bytes b)) where
  -- a name that is no lexeme's is told of
  pub unnamed_told : (text : List ℕ) → IsUnnamed b names text → MayHave words file left (refused 3 text)
  unnamed_told text is =
      let none : GoesOnWithNone job held.bytes = λ c accepted. none_of c
      (subst (λ (t : Task). AcceptedFor (names_of t) held.bytes c) is_job.task accepted) in
      refused_for words job asks file left name is_job.named text held.bytes held.may_hold none
      (subst (λ (t : Task). IsRefusedFor (names_of t) held.bytes text) (sym is_job.task) (ForName b held.holds is.name is.first is.told))
    where
      none_of : (c : Built) → AcceptedFor names held.bytes c → ⊥
      none_of c accepted =
          let same : c ≡ b = one_built grammar_laws held.bytes c b accepted.accepted held.holds in
          let named : NamesLexeme c is.name = all_at (NamesLexeme c) names is.name accepted.lexemes (first_among is.first) in
          is.first.has (subst (λ (d : Built). NamesLexeme d is.name) same named)

  pub unnamed_stops : (faults : ℕ) (files_after : Disk) (input_faults : ℕ) (out : Stream) (stop : Stop) → NamesStop b names stop
      → WorkStops words (record { file = file; faults = faults }) files_after (record { bytes = left; faults = input_faults }) (record { bytes = left; faults = input_faults }) out out stop
  unnamed_stops faults files_after input_faults out stop stops =
      stops_as
      (of_grammar _ (λ r. MayHave words file left (refusal_outcome r) × Appends out.bytes out.bytes []) (λ text told. (unnamed_told text.items told, appends_none out.bytes)))
      (λ asked x. absurd x) (λ x. absurd x) (λ x. absurd x) (λ x. nothing_appended (MayHave words file left) out.bytes)
      stop stops

module _ (words : List (List ℕ)) (job : Job) (name : List ℕ) (from : InputFrom) (names : List (List ℕ)) (what : Telling) (is_job : IsTellJob job name from names what) (asks : Asks words job)
    (file : List ℕ → ToldFile) (left : Option (List ℕ)) (b : Built) (held : FileHolds (file name) (λ bytes. Accepted bytes b)) (given : List ℕ) (are : AreGiven b names given) where
  accepted_for : AcceptedFor names held.bytes b
  accepted_for = record { accepted = held.holds; lexemes = given_named b names given are }

  goes_on : GoesOn job file
  goes_on = record {
    grammar = held.bytes;
    held = subst (λ (o : Option (List ℕ)). IfSome o (λ n. MayHold (file n) held.bytes)) (sym is_job.named) held.may_hold;
    accepted = subst (λ (o : Option (List ℕ)). IfSome o (λ _. (c : Built) × AcceptedFor (names_of job.task) held.bytes c)) (sym is_job.named)
        (b, subst (λ (t : Task). AcceptedFor (names_of t) held.bytes b) (sym is_job.task) accepted_for);
  }

  supplied : (bytes : List ℕ) → InputMayBe from file left bytes → Supplied words file left held.bytes bytes
  supplied bytes may_be = record {
    grammar_held = held_by_all words job asks file left name is_job.named held.bytes held.may_hold;
    input_held = λ other others goes. subst (λ (j : Job). InputMayBe j.input file left bytes) (asks_once words job other asks others)
        (subst (λ (f : InputFrom). InputMayBe f file left bytes) (sym is_job.input) may_be);
  }

  pub tells_within : (out out_after : Option (List ℕ)) (before after : ℕ) → InputHolds from file left (ToldWithin what b given out out_after before after) → RunsWithin words file left out out_after before after
  tells_within out out_after before after may =
      let (d, within) = may.holds in
      record {
        may = record {
          grammar = held.bytes;
          input = may.bytes;
          outcome = d.outcome;
          supplied = supplied may.bytes may.may_be;
          is_outcome = OfJob job asks (subst (λ (t : Task). IsTaskOutcome t held.bytes may.bytes d.outcome) (sym is_job.task) (GrammarAccepted b accepted_for (given, are, d.is)));
        };
        status_is = d.status_is;
        written = d.out;
        does = λ other others. subst (λ (j : Job). DoesWithin j.task held.bytes may.bytes before after) (asks_once words job other asks others)
            (subst (λ (t : Task). DoesWithin t held.bytes may.bytes before after) (sym is_job.task) (b, accepted_for, (given, are, within)));
      }

  pub told : (o : Outcome) → MayRead (IsInputOutcome what b given) from file left o → MayHave words file left o
  told o may = (
    record {
      grammar = held.bytes;
      input = may.bytes;
      outcome = o;
      supplied = supplied may.bytes may.may_be;
      is_outcome = OfJob job asks (subst (λ (t : Task). IsTaskOutcome t held.bytes may.bytes o) (sym is_job.task) (GrammarAccepted b accepted_for (given, are, may.holds)));
    },
    refl,
  )

  pub reads_input : from ≡ StandardInput → ReadsInput words file
  reads_input standard = record { job = job; asks = asks; standard = is_job.input ∙ standard; goes_on = goes_on }

  pub opens_input : (asked : List ℕ) → from ≡ FileNamed asked → MayOpen words file asked
  opens_input asked is = OfInput job asks (is_job.input ∙ is) goes_on

  asks_one : (old mid new : Option (List (List ℕ))) → AddsNames old mid (name ∷ []) → AddsNames mid new [] → AsksNames words file old new
  asks_one old mid new first adds = record { names = name ∷ []; may_ask = ForGrammar job name asks is_job.named refl; adds = adds_twice old mid new (name ∷ []) [] first adds }

  asks_by : (from' : InputFrom) → from ≡ from' → (old mid new : Option (List (List ℕ))) → AddsNames old mid (name ∷ []) → AsksAmong mid new (names_from from') → AsksNames words file old new
  asks_by Nowhere is old mid new first among = by among.asked among.adds among.split
    where
      by : (asked : List (List ℕ)) → AddsNames mid new asked → [] ≡ asked ++ among.rest → AsksNames words file old new
      by [] adds split = asks_one old mid new first adds
      by (a ∷ more) adds split = absurd (cc split)
  asks_by StandardInput is old mid new first among = by among.asked among.adds among.split
    where
      by : (asked : List (List ℕ)) → AddsNames mid new asked → [] ≡ asked ++ among.rest → AsksNames words file old new
      by [] adds split = asks_one old mid new first adds
      by (a ∷ more) adds split = absurd (cc split)
  asks_by (FileNamed input) is old mid new first among = by among.asked among.adds among.split
    where
      by : (asked : List (List ℕ)) → AddsNames mid new asked → input ∷ [] ≡ asked ++ among.rest → AsksNames words file old new
      by [] adds split = asks_one old mid new first adds
      by (a ∷ []) adds split = record {
        names = name ∷ a ∷ [];
        may_ask = ForInput job a asks (is_job.input ∙ is ∙ ap FileNamed (let e : input ≡ a = cc split in e)) goes_on
            (ap (λ (o : Option (List ℕ)). option_to_list o ++ a ∷ []) (sym is_job.named));
        adds = adds_twice old mid new (name ∷ []) (a ∷ []) first adds;
      }
      by (a ∷ c ∷ more) adds split = absurd (let e : [] ≡ c ∷ (more ++ among.rest) = cc split in cc e)

  pub asks_both : (old mid new : Option (List (List ℕ))) → AddsNames old mid (name ∷ []) → AsksAmong mid new (names_from from) → AsksNames words file old new
  asks_both old mid new first among = asks_by from refl old mid new first among
