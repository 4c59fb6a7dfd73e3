-- What is known where a job stops.
use Rattle.std.specs.Prelude.{◌≡◌, ℕ, List, [], ◌∷◌, ◌++◌, ◌⊎◌, Option, ⊤, ◌<◌, length}
use Rattle.std.specs.Io.KnownBytes.{Appends}
use Rattle.outside_model.specs.Causes.{Rose}
use Rattle.outside_model.specs.Told.{ToldFile, Holds, FileHolds, AppendsPrefix}
use Rattle.language_model.specs.Building.{Built}
use Rattle.words_model.specs.Words.{Telling, Job, InputFrom, Asks}
use Rattle.words_model.specs.Words.InputFrom.{Nowhere, StandardInput, FileNamed}
use Rattle.run_model.specs.Refused.{IsRefused}
use Rattle.run_model.specs.Inputs.{longer_text}
use Rattle.run_model.specs.Checking as checks
use Rattle.run_model.specs.Outcome.{Outcome, IsInputOutcome}
use Rattle.run_model.specs.Outside.{Stream, Disk}
use Rattle.run_model.specs.Within.{InputWithin}
use Rattle.run_model.specs.Runs.{MayEnd, MayOpen, InputMayBe, fault_line, memory_line}
use Rattle.run_model.specs.Runs.Fault.{CannotOpen, CannotRead, CannotWrite}
use Rattle.marpa_script.specs.declared.refusal.ScriptRefusal as script
use Rattle.marpa_script.specs.declared.refusal.ScriptRefusal.TheVariants as unanswered
use Rattle.slif_cli.specs.declared.checking.SymbolRow.{SymbolRow}
use Rattle.tellings.specs.declared.stop.Stop.{Stop}
use Rattle.tellings.specs.declared.stop.Stop.TheVariants.{Refused, OpenFault, ReadFault, WriteFault, NoMemory}
use Rattle.tellings.specs.Stops.{refusal_outcome, StopsBy, OfGrammar, OfInput, Does, StopsAt}

abbrev pub told_row : SymbolRow → checks.SymbolRow
told_row r = record { symbol = r.symbol; nullable = r.nullable; productive = r.productive; accessible = r.accessible }

-- where the grammar was not read from the file of the name
abbrev pub LoadStops : List ℕ → ToldFile → (Files : Type 0) → Stop → Type 0
LoadStops name told Files = StopsBy (OfGrammar (λ text. FileHolds told (λ bytes. IsRefused bytes text))) (λ asked. Files × (asked ≡ name)) Files ⊥ ⊤

-- answers to a script that were not all written
abbrev pub script_stop : script.ScriptRefusal → Stop
script_stop unanswered.WriteFault = WriteFault
script_stop unanswered.NoMemory = NoMemory

-- THE INPUT

-- bytes that may be those of the input have P
pub record InputHolds (from : InputFrom) (file : List ℕ → ToldFile) (left : Option (List ℕ)) (P : List ℕ → Type 0) : Type 0 where
  pub bytes : List ℕ
  pub may_be : InputMayBe from file left bytes
  pub holds : P bytes

-- the names of the files that are opened for the input
abbrev pub names_from : InputFrom → List (List ℕ)
names_from Nowhere = []
names_from StandardInput = []
names_from (FileNamed name) = name ∷ []

-- where the bytes of the input were not read
abbrev pub ReadStops : (limit : ℕ) (from : InputFrom) → (List ℕ → ToldFile) → Option (List ℕ) → (Files Input : Type 0) → Stop → Type 0
ReadStops limit from file left Files Input =
    StopsBy (OfInput (λ text. (text ≡ longer_text limit) × InputHolds from file left (λ bytes. limit < length bytes)))
    (λ asked. Files × (from ≡ FileNamed asked)) (Files ⊎ Input) ⊥ ⊤

-- where those of a file were not read
abbrev pub FileStops : (limit : ℕ) → List ℕ → ToldFile → (Files : Type 0) → Stop → Type 0
FileStops limit name told Files =
    StopsBy (OfInput (λ text. (text ≡ longer_text limit) × FileHolds told (λ bytes. limit < length bytes)))
    (λ asked. Files × (asked ≡ name)) Files ⊥ ⊤

-- where those of the standard input were not read
abbrev pub SourceStops : (limit : ℕ) → Option (List ℕ) → (Input : Type 0) → Stop → Type 0
SourceStops limit left Input =
    StopsBy (OfInput (λ text. (text ≡ longer_text limit) × Holds left (λ bytes. limit < length bytes)))
    (λ name. ⊥) Input ⊥ ⊤

-- an outcome over what may be the input
abbrev pub MayRead : (List ℕ → Outcome → Type 0) → (from : InputFrom) → (List ℕ → ToldFile) → Option (List ℕ) → Outcome → Type 0
MayRead P from file left outcome = InputHolds from file left (λ bytes. P bytes outcome)

-- what is told of these bytes was written, and the steps are within the bound for it
abbrev pub ToldWithin : Telling → Built → (given : List ℕ) → (out out_after : Option (List ℕ)) → (before after : ℕ) → List ℕ → Type 0
ToldWithin what b given out out_after before after bytes =
    Does (IsInputOutcome what b given bytes) out out_after × InputWithin what b given bytes before after

-- JOBS

-- an outcome that a run by the words may have
abbrev pub MayHave : List (List ℕ) → (List ℕ → ToldFile) → Option (List ℕ) → Outcome → Type 0
MayHave words file left outcome = (may : MayEnd words file left) × (may.outcome ≡ outcome)

abbrev pub WorkStops : List (List ℕ) → Disk → Disk → Stream → Stream → Stream → Stream → Stop → Type 0
WorkStops words files files_after input input_after before after stop =
    StopsAt (MayHave words files.file input.bytes) (λ name. Rose files.faults files_after.faults × MayOpen words files.file name)
    (Rose files.faults files_after.faults ⊎ Rose input.faults input_after.faults) before after stop

-- whatever the words are that ask for the job
abbrev pub DoesJob : Job → (List ℕ → ToldFile) → Option (List ℕ) → (before after : Option (List ℕ)) → Type 0
DoesJob job file left before after = (words : List (List ℕ)) → Asks words job → Does (MayHave words file left) before after

abbrev pub JobStops : Job → Disk → Disk → Stream → Stream → Stream → Stream → Stop → Type 0
JobStops job files files_after input input_after before after stop =
    (words : List (List ℕ)) → Asks words job → WorkStops words files files_after input input_after before after stop

-- TELLING

-- the line was written, or the count rose and a prefix of it was
pub data Tells (before after : Stream) (line : List ℕ) : Type 0 where
  Whole : Appends before.bytes after.bytes line → Tells before after line
  Part : Rose before.faults after.faults → AppendsPrefix before.bytes after.bytes line → Tells before after line

-- the write of a line failed, and another line was tried
pub record Breaks (before after : Stream) (line other : List ℕ) : Type 0 where
  pub rose : Rose before.faults after.faults
  pub text : List ℕ
  pub rest : List ℕ
  pub split : line ≡ text ++ rest
  pub other_text : List ℕ
  pub other_rest : List ℕ
  pub other_split : other ≡ other_text ++ other_rest
  pub appends : Appends before.bytes after.bytes (text ++ other_text)

-- what is told of a stop, and the status for it
abbrev pub Reports : Stream → Stream → ℕ → Stop → Type 0
Reports before after status (Refused refusal) =
    ((status ≡ (refusal_outcome refusal).status) × Appends before.bytes after.bytes (refusal_outcome refusal).line)
    ⊎ (((status ≡ 4) × Breaks before after (refusal_outcome refusal).line (fault_line CannotWrite))
    ⊎ ((status ≡ 5) × Tells before after memory_line))
Reports before after status (OpenFault name) =
    ((status ≡ 4) × Tells before after (fault_line (CannotOpen name.now))) ⊎ ((status ≡ 5) × Tells before after memory_line)
Reports before after status ReadFault = (status ≡ 4) × Tells before after (fault_line CannotRead)
Reports before after status WriteFault = (status ≡ 4) × Tells before after (fault_line CannotWrite)
Reports before after status NoMemory = (status ≡ 5) × Tells before after memory_line
