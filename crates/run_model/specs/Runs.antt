-- What a run does: it has the outcome of what it read, meets a fault of the outside, or finds no memory.
use Rattle.std.specs.Prelude.{◌≡◌, ◌≢◌, ℕ, List, [], ◌∷◌, ◌++◌, ◌⊎◌, Option, Some, IfSome, option_to_list, ⊤, codes}
use Rattle.std.specs.Io.KnownBytes.{Appends}
use Rattle.outside_model.specs.Causes.{Rose}
use Rattle.language_model.specs.Building.{Built}
use Rattle.outside_model.specs.Told.{ToldFile, MayBe, MayHold, AppendsPrefix, AddsNames}
use Rattle.words_model.specs.Words.{Job, InputFrom, Asks}
use Rattle.words_model.specs.Words.InputFrom.{Nowhere, StandardInput, FileNamed}
use Rattle.run_model.specs.Given.{AcceptedFor, names_of}
use Rattle.run_model.specs.Outcome.{Outcome, IsOutcome, message}
use Rattle.run_model.specs.Outside.{Outside}

-- these may be the bytes of an input
abbrev pub InputMayBe : InputFrom → (List ℕ → ToldFile) → Option (List ℕ) → List ℕ → Type 0
InputMayBe Nowhere file left bytes = ⊤
InputMayBe StandardInput file left bytes = MayBe left bytes
InputMayBe (FileNamed name) file left bytes = MayHold (file name) bytes

-- the job needs no grammar, or accepts these bytes
abbrev pub Accepts : Job → (grammar : List ℕ) → Type 0
Accepts job grammar = IfSome job.grammar (λ _. (b : Built) × AcceptedFor (names_of job.task) grammar b)

-- the bytes that a job needs are those that the outside holds, as far as it tells them
pub record Supplied (words : List (List ℕ)) (file : List ℕ → ToldFile) (left : Option (List ℕ)) (grammar input : List ℕ) : Type 0 where
  pub grammar_held : (job : Job) → Asks words job → IfSome job.grammar (λ name. MayHold (file name) grammar)
  pub input_held : (job : Job) → Asks words job → Accepts job grammar → InputMayBe job.input file left input

-- an outcome that a run may have over these files and this input
pub record MayEnd (words : List (List ℕ)) (file : List ℕ → ToldFile) (left : Option (List ℕ)) : Type 0 where
  pub grammar : List ℕ
  pub input : List ℕ
  pub outcome : Outcome
  pub supplied : Supplied words file left grammar input
  pub is_outcome : IsOutcome words grammar input outcome

-- the text is a prefix of that part of an outcome, or empty
pub data IsPrefixOf (words : List (List ℕ)) (file : List ℕ → ToldFile) (left : Option (List ℕ)) (part : Outcome → List ℕ) (text : List ℕ) : Type 0 where
  Nothing : text ≡ [] → IsPrefixOf words file left part text
  Prefix : (may : MayEnd words file left) (rest : List ℕ) → part may.outcome ≡ text ++ rest → IsPrefixOf words file left part text

-- the status and the texts are those of an outcome
pub record Answers (words : List (List ℕ)) (before after : Outside) (status : ℕ) : Type 0 where
  pub may : MayEnd words before.files.file before.input.bytes
  pub status_is : status ≡ may.outcome.status
  pub out : Appends before.out.bytes after.out.bytes may.outcome.out
  pub err : Appends before.err.bytes after.err.bytes may.outcome.line

-- the job goes on to its input: it needs no grammar, or accepts bytes that may be those of its grammar's file
pub record GoesOn (job : Job) (file : List ℕ → ToldFile) : Type 0 where
  pub grammar : List ℕ
  pub held : IfSome job.grammar (λ name. MayHold (file name) grammar)
  pub accepted : Accepts job grammar

-- the words have the run open the file: that of the job's grammar, or that of its input where the job goes on to it
pub data MayOpen (words : List (List ℕ)) (file : List ℕ → ToldFile) (name : List ℕ) : Type 0 where
  OfGrammar : (job : Job) → Asks words job → job.grammar ≡ Some name → MayOpen words file name
  OfInput : (job : Job) → Asks words job → job.input ≡ FileNamed name → GoesOn job file → MayOpen words file name

pub data Fault : Type 0 where
  CannotOpen : (name : List ℕ) → Fault
  CannotRead : Fault
  CannotWrite : Fault

abbrev pub fault_line : Fault → List ℕ
fault_line (CannotOpen name) = message (codes "cannot open " ++ name)
fault_line CannotRead = message (codes "read fault")
fault_line CannotWrite = message (codes "write fault")

-- whose count rose, for each fault
abbrev pub HasCauseOf : List (List ℕ) → Outside → Outside → Fault → Type 0
HasCauseOf words before after (CannotOpen name) = Rose before.files.faults after.files.faults × MayOpen words before.files.file name
HasCauseOf words before after CannotRead = Rose before.files.faults after.files.faults ⊎ Rose before.input.faults after.input.faults
HasCauseOf words before after CannotWrite = Rose before.out.faults after.out.faults ⊎ Rose before.err.faults after.err.faults

-- the standard output got nothing, or its count rose and it got a prefix of the text
pub data OutAtFault (words : List (List ℕ)) (before after : Outside) : Type 0 where
  OutEmpty : Appends before.out.bytes after.out.bytes [] → OutAtFault words before after
  OutBroken : Rose before.out.faults after.out.faults → (text : List ℕ) → IsPrefixOf words before.files.file before.input.bytes (λ o. o.out) text → Appends before.out.bytes after.out.bytes text
      → OutAtFault words before after

-- the standard error got the line, or its count rose and it got a prefix of the outcome's line and then a prefix of this one
pub data ErrAtFault (words : List (List ℕ)) (before after : Outside) (line : List ℕ) : Type 0 where
  ErrWhole : Appends before.err.bytes after.err.bytes line → ErrAtFault words before after line
  ErrBroken : Rose before.err.faults after.err.faults → (text prefix rest : List ℕ) → IsPrefixOf words before.files.file before.input.bytes (λ o. o.line) text → line ≡ prefix ++ rest
      → Appends before.err.bytes after.err.bytes (text ++ prefix) → ErrAtFault words before after line

pub record Faults (words : List (List ℕ)) (before after : Outside) : Type 0 where
  pub fault : Fault
  pub cause : HasCauseOf words before after fault
  pub out : OutAtFault words before after
  pub err : ErrAtFault words before after (fault_line fault)

abbrev pub memory_line : List ℕ
memory_line = message (codes "out of memory")

-- the standard output got a prefix of the text, and the standard error the line or, where its count rose, a prefix of it
pub record RunsOut (words : List (List ℕ)) (before after : Outside) : Type 0 where
  pub text : List ℕ
  pub prefix : IsPrefixOf words before.files.file before.input.bytes (λ o. o.out) text
  pub out : Appends before.out.bytes after.out.bytes text
  pub err : Appends before.err.bytes after.err.bytes memory_line
      ⊎ (Rose before.err.faults after.err.faults × AppendsPrefix before.err.bytes after.err.bytes memory_line)

-- no count rose
pub record IsQuiet (before after : Outside) : Type 0 where
  pub files : Rose before.files.faults after.files.faults → ⊥
  pub input : Rose before.input.faults after.input.faults → ⊥
  pub out : Rose before.out.faults after.out.faults → ⊥
  pub err : Rose before.err.faults after.err.faults → ⊥

-- what a run did, by the status that it answered: 4 for a fault, 5 for want of memory
pub record Runs (words : List (List ℕ)) (before after : Outside) (status : ℕ) : Type 0 where
  pub answer : status ≢ 4 → status ≢ 5 → Answers words before after status
  pub fault : status ≡ 4 → Faults words before after
  pub memory : status ≡ 5 → RunsOut words before after
  -- where no count rose, only want of memory keeps the outcome back
  pub complete : IsQuiet before after → status ≢ 5 → Answers words before after status

-- the run asks for these names, in this order: none, or a prefix of those of the grammar's file and of the input's, the latter
-- where the job goes on to its input
pub data MayAsk (words : List (List ℕ)) (file : List ℕ → ToldFile) (names : List (List ℕ)) : Type 0 where
  ForNothing : names ≡ [] → MayAsk words file names
  ForGrammar : (job : Job) (name : List ℕ) → Asks words job → job.grammar ≡ Some name → names ≡ name ∷ [] → MayAsk words file names
  ForInput : (job : Job) (name : List ℕ) → Asks words job → job.input ≡ FileNamed name → GoesOn job file → names ≡ option_to_list job.grammar ++ name ∷ [] → MayAsk words file names

-- the told names grow by those that the run asks for
pub record AsksNames (words : List (List ℕ)) (file : List ℕ → ToldFile) (old new : Option (List (List ℕ))) : Type 0 where
  pub names : List (List ℕ)
  pub may_ask : MayAsk words file names
  pub adds : AddsNames old new names

-- the standard input may be read: the words ask for a job that reads it and goes on to it
pub record ReadsInput (words : List (List ℕ)) (file : List ℕ → ToldFile) : Type 0 where
  pub job : Job
  pub asks : Asks words job
  pub standard : job.input ≡ StandardInput
  pub goes_on : GoesOn job file
