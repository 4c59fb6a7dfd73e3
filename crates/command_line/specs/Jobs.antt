-- What a job stands for.
use Rattle.std.specs.Prelude.{ℕ, List, [], Option, Some, None, map}
use Rattle.std.specs.Option.{option_copied}
use Rattle.std.specs.Borrow.{Bor}
use Rattle.words_model.specs.Words as model
use Rattle.command_line.specs.declared.job.ValuesAsked.{ValuesAsked}
use Rattle.command_line.specs.declared.job.MoreAsked.{MoreAsked}
use Rattle.command_line.specs.declared.job.Telling.{Telling}
use Rattle.command_line.specs.declared.job.Telling.TheVariants.{Values, More, Expected, Report, Glades}
use Rattle.command_line.specs.declared.job.Task.{Task}
use Rattle.command_line.specs.declared.job.Task.TheVariants.{Check, Tell, Work, Script}
use Rattle.command_line.specs.declared.job.InputFrom.{InputFrom}
use Rattle.command_line.specs.declared.job.InputFrom.TheVariants.{Nowhere, StandardInput, FileNamed}
use Rattle.command_line.specs.declared.job.Job.{Job}

abbrev pub asked_of : ValuesAsked → model.ValuesAsked
asked_of asked = record { show = asked.show; ranking = asked.ranking; first = asked.first; stats = asked.stats }

abbrev pub more_of : MoreAsked → model.MoreAsked
more_of asked = record { show = asked.show; ranking = asked.ranking; after = asked.after.now; first = asked.first }

abbrev pub telling_of : Telling → model.Telling
telling_of (Values asked) = model.Values (asked_of asked)
telling_of (More asked) = model.More (more_of asked)
telling_of Expected = model.Expected
telling_of (Report at) = model.Report at
telling_of Glades = model.Glades

-- the names that stand between the commas of the text that is given, if one is
abbrev pub names_in : Bor (List ℕ) → List (List ℕ)
names_in text = model.names_between text.now

abbrev pub names_told : Option (Bor (List ℕ)) → List (List ℕ)
names_told None = []
names_told (Some text) = names_in text

abbrev pub task_of : Task → model.Task
task_of Check = model.Check
task_of (Tell given what) = model.Tell (names_told given) (telling_of what)
task_of (Work size) = model.Work size
task_of Script = model.Script

abbrev pub input_of : InputFrom → model.InputFrom
input_of Nowhere = model.Nowhere
input_of StandardInput = model.StandardInput
input_of (FileNamed name) = model.FileNamed name.now

abbrev pub job_of : Job → model.Job
job_of job = record { grammar = option_copied job.grammar; input = input_of job.input; task = task_of job.task }

-- the names of options
abbrev pub names_of : List (Bor (List ℕ)) → List (List ℕ)
names_of = map (λ name. name.now)
