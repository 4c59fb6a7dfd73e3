-- What the words of the command line ask for. They follow POSIX's utility syntax (XBD 12.1 and 12.2) with GNU's long options:
-- a word that begins with `--` names an option, whose value stands after `=` (61) or is the next word; `--` alone ends the
-- options; any other word is an operand. A word is the bytes of its characters.
use Rattle.std.specs.Prelude.{◌≡◌, ℕ, ◌==◌, Bool, true, false, not, ◌&&◌, ◌||◌, if◌then◌else◌, nat_eq, nat_lt, nat_le, List, [], ◌∷◌, map, length, drop, Option, Some, None, is_some, option_map, option_and_then, find, bytes_eq, codes}
use Rattle.std.specs.Char.{is_ascii_digit}
use Rattle.std.specs.List.{list_all, list_any, starts_with, before_first, after_first, slice_split}
use Rattle.grammar_model.specs.declared.Ranking.{Ranking}
use Rattle.grammar_model.specs.declared.Ranking.TheVariants.{None as NoRanks, Rule as RuleRanks, High as HighRanks}
use Rattle.grammar_model.specs.declared.Show.{Show}
use Rattle.grammar_model.specs.declared.Show.TheVariants.{Array as ShowArray, Tree as ShowTree}
use Rattle.grammar_model.specs.declared.limits.TheConstants.{LAST_PLACE}
use Rattle.language_model.specs.Building.{digits_number, is_one_of}

-- ---- jobs

-- which values are shown, and how
pub record ValuesAsked : Type 0 where
  pub show : Show
  pub ranking : Ranking
  -- at most so many
  pub first : Option ℕ
  pub stats : Bool

-- which values are shown, and how, of the derivations after a place
pub record MoreAsked : Type 0 where
  pub show : Show
  pub ranking : Ranking
  -- the text of the place: a derivation's cursor, or `0` for the place before the first
  pub after : List ℕ
  -- at most so many
  pub first : Option ℕ

-- what is told of an input that is read to its end: the values of its derivations, those after a place, the lexemes that could come next,
-- the report at a place, or where its derivations differ
pub data Telling : Type 0 where
  Values : (asked : ValuesAsked) → Telling
  More : (asked : MoreAsked) → Telling
  Expected : Telling
  Report : (at : ℕ) → Telling
  Glades : Telling

-- what a job does: it tells what the symbols of its grammar can do, it tells something of its input, where lexemes with the given names
-- are supplied as reading is stuck, it reads an input of its own, of that size, by a grammar of its own, or it plays its input as a script
pub data Task : Type 0 where
  Check : Task
  Tell : (given : List (List ℕ)) (what : Telling) → Task
  Work : (size : ℕ) → Task
  Script : Task

-- where the input of a job is
pub data InputFrom : Type 0 where
  Nowhere : InputFrom
  StandardInput : InputFrom
  FileNamed : (name : List ℕ) → InputFrom

-- a job: the file of its grammar, if it needs one, where its input is, and what it does
pub record Job : Type 0 where
  pub grammar : Option (List ℕ)
  pub input : InputFrom
  pub task : Task

-- ---- what the words set, one after the other

-- the value of an option, or the operand, which stands under the name JOB
pub record Setting : Type 0 where
  pub name : List ℕ
  pub value : List ℕ

-- the options that take a value, and the one that takes none
abbrev pub with_value : List (List ℕ)
with_value = codes "grammar" ∷ codes "input" ∷ codes "first" ∷ codes "rank" ∷ codes "show" ∷ codes "at" ∷ codes "size" ∷ codes "after" ∷ codes "give" ∷ []

abbrev pub stats : List ℕ
stats = codes "stats"

abbrev pub set : (name value : List ℕ) → Setting
set name value = record { name = name; value = value }

abbrev pub set_job : List ℕ → Setting
set_job = set (codes "JOB")

-- the word sets this, and the words after it what they set
abbrev pub and_then : Setting → Option (List Setting) → Option (List Setting)
and_then setting = option_map (λ settings. setting ∷ settings)

-- the word begins with '-' and is longer
abbrev pub is_dashed : List ℕ → Bool
is_dashed [] = false
is_dashed (c ∷ cs) = c == 45 && nat_lt 0 (length cs)

-- the name and the value in `--name=value`, and in `--name`, which has none
abbrev pub option_name : List ℕ → List ℕ
option_name word = before_first (λ c. c == 61) (drop 2 word)

abbrev pub option_value : List ℕ → Option (List ℕ)
option_value word =
    if list_any (λ c. c == 61) (drop 2 word) then Some (after_first (λ c. c == 61) (drop 2 word)) else None

-- a word that names an option; `next` is what the words after it set, where an option may wait for its value
abbrev pub option_sets : (name : List ℕ) (value : Option (List ℕ)) (next : Option (List ℕ) → Option (List Setting)) → Option (List Setting)
option_sets name (Some value) next = if is_one_of with_value name then and_then (set name value) (next None) else None
option_sets name None next =
    if is_one_of with_value name then next (Some name)
    else (if bytes_eq name stats then and_then (set name (codes "true")) (next None)
    else None)

abbrev pub word_sets : (word : List ℕ) (next : Option (List ℕ) → Option (List Setting)) → Option (List Setting)
word_sets word next =
    if starts_with nat_eq word (codes "--") then option_sets (option_name word) (option_value word) next
    else (if is_dashed word then None
    else and_then (set_job word) (next None))

-- what the words set, where an option may wait for its value; they set nothing where one is no option or lacks its value
abbrev pub words_set : List (List ℕ) → (waiting : Option (List ℕ)) → Option (List Setting)
words_set [] None = Some []
words_set [] (Some option) = None
words_set (word ∷ words) None =
    if bytes_eq word (codes "--") then Some (map set_job words)
    else word_sets word (words_set words)
words_set (word ∷ words) (Some option) =
    if is_dashed word then None else and_then (set option word) (words_set words None)

-- each option and the operand is set once at most
abbrev pub are_set_once : List Setting → Bool
are_set_once [] = true
are_set_once (s ∷ ss) = not (list_any (λ t. bytes_eq t.name s.name) ss) && are_set_once ss

abbrev pub value_of : List Setting → (name : List ℕ) → Option (List ℕ)
value_of settings name = option_map (λ s. s.value) (find (λ s. bytes_eq s.name name) settings)

-- ---- values

-- the value of an option, or what stands for it where it is not given; None where the value has no meaning
abbrev pub read_or : {T : Type 0} → T → (List ℕ → Option T) → Option (List ℕ) → Option T
read_or default read None = Some default
read_or default read (Some value) = read value

-- a name or a text that is not empty and not '-'
abbrev pub name_or_text : List ℕ → Option (List ℕ)
name_or_text value = if nat_eq (length value) 0 || bytes_eq value (codes "-") then None else Some value

-- no text stands twice in the list
abbrev pub are_different : List (List ℕ) → Bool
are_different [] = true
are_different (t ∷ ts) = not (is_one_of ts t) && are_different ts

-- the pieces between the commas (44): one to eight different names, none of them empty
abbrev pub are_names : List (List ℕ) → Bool
are_names names = nat_le (length names) 8 && list_all (λ name. nat_lt 0 (length name)) names && are_different names

abbrev pub names_between : List ℕ → List (List ℕ)
names_between value = slice_split (λ c. c == 44) value

abbrev pub names_given : List ℕ → Option (List (List ℕ))
names_given value = option_and_then (λ text. if are_names (names_between text) then Some (names_between text) else None) (name_or_text value)

-- a number of one to ten ASCII digits
abbrev pub number_from : (least most : ℕ) → List ℕ → Option ℕ
number_from least most value =
    if nat_lt 0 (length value) && nat_le (length value) 10 && list_all is_ascii_digit value
    && nat_le least (digits_number value) && nat_le (digits_number value) most
    then Some (digits_number value) else None

abbrev pub input_file : List ℕ → Option InputFrom
input_file value = option_map FileNamed (name_or_text value)

-- at most so many values
abbrev pub value_count : List ℕ → Option (Option ℕ)
value_count value = option_map (λ n. Some n) (number_from 1 4294967295 value)

abbrev pub ranking_of : List ℕ → Option Ranking
ranking_of value =
    if bytes_eq value (codes "none") then Some NoRanks
    else (if bytes_eq value (codes "rule") then Some RuleRanks
    else (if bytes_eq value (codes "high") then Some HighRanks
    else None))

abbrev pub show_of : List ℕ → Option Show
show_of value =
    if bytes_eq value (codes "array") then Some ShowArray
    else (if bytes_eq value (codes "tree") then Some ShowTree
    else None)

-- ---- what is given

-- the value of each name that was set
abbrev pub Given : Type 0
Given = (name : List ℕ) → Option (List ℕ)

-- no option is given but these
abbrev pub gives_only : List (List ℕ) → Given → Bool
gives_only names given = list_all (λ option. is_one_of names option || not (is_some (given option))) (stats ∷ with_value)

-- the file of the grammar, of a job that has the option
abbrev pub grammar_given : (options : List (List ℕ)) → Given → Option (Option (List ℕ))
grammar_given options given =
    if is_one_of options (codes "grammar") then option_map (λ name. Some name) (option_and_then name_or_text (given (codes "grammar"))) else Some None

-- the input is the standard input, where a job that has the option is not given a file
abbrev pub input_given : (options : List (List ℕ)) → Given → Option InputFrom
input_given options given = if is_one_of options (codes "input") then read_or StandardInput input_file (given (codes "input")) else Some Nowhere

-- the job of a task that has these options
abbrev pub job_with : (options : List (List ℕ)) (task : Option Task) → Given → Option Job
job_with options task given =
    if gives_only options given then
    option_and_then (λ grammar.
    option_and_then (λ input.
    option_map (λ t. record { grammar = grammar; input = input; task = t }) task)
    (input_given options given))
    (grammar_given options given)
    else None

abbrev pub values_asked : Given → Option Telling
values_asked given =
    option_and_then (λ show.
    option_and_then (λ ranking.
    option_map (λ first. Values (record { show = show; ranking = ranking; first = first; stats = is_some (given stats) }))
    (read_or None value_count (given (codes "first"))))
    (read_or RuleRanks ranking_of (given (codes "rank"))))
    (read_or ShowArray show_of (given (codes "show")))

abbrev pub more_asked : Given → Option Telling
more_asked given =
    option_and_then (λ show.
    option_and_then (λ ranking.
    option_and_then (λ after.
    option_map (λ first. More (record { show = show; ranking = ranking; after = after; first = first }))
    (read_or None value_count (given (codes "first"))))
    (option_and_then name_or_text (given (codes "after"))))
    (read_or RuleRanks ranking_of (given (codes "rank"))))
    (read_or ShowArray show_of (given (codes "show")))

abbrev pub report_asked : Given → Option Telling
report_asked given = option_map Report (option_and_then (number_from 0 LAST_PLACE) (given (codes "at")))

abbrev pub work_asked : Given → Option Task
work_asked given = option_map Work (option_and_then (number_from 1 100000) (given (codes "size")))

-- ---- jobs by name

-- what a job of some name does: it checks, it works, it plays, or it tells what its values ask for and may have further options; where it
-- supplies, it needs the names of what it supplies
pub data Does : Type 0 where
  Checks : Does
  Tells : (options : List (List ℕ)) (asked : Given → Option Telling) → Does
  Supplies : (options : List (List ℕ)) (asked : Given → Option Telling) → Does
  Works : Does
  Plays : Does

pub record JobRow : Type 0 where
  pub name : List ℕ
  pub does : Does

-- THE TABLE OF JOBS
abbrev pub jobs : List JobRow
jobs =
    record { name = codes "run"; does = Tells (codes "first" ∷ codes "rank" ∷ codes "show" ∷ stats ∷ []) values_asked } ∷
    record { name = codes "check"; does = Checks } ∷
    record { name = codes "expect"; does = Tells [] (λ given. Some Expected) } ∷
    record { name = codes "progress"; does = Tells (codes "at" ∷ []) report_asked } ∷
    record { name = codes "work"; does = Works } ∷
    record { name = codes "script"; does = Plays } ∷
    record { name = codes "more"; does = Tells (codes "after" ∷ codes "first" ∷ codes "rank" ∷ codes "show" ∷ []) more_asked } ∷
    record { name = codes "slip"; does = Supplies (codes "first" ∷ codes "rank" ∷ codes "show" ∷ []) values_asked } ∷
    record { name = codes "glades"; does = Tells [] (λ given. Some Glades) } ∷ []

-- the options that a job may have; it needs those whose value has no default
abbrev pub options_of : Does → List (List ℕ)
options_of Checks = codes "grammar" ∷ []
options_of (Tells options asked) = codes "grammar" ∷ codes "input" ∷ options
options_of (Supplies options asked) = codes "grammar" ∷ codes "input" ∷ codes "give" ∷ options
options_of Works = codes "size" ∷ []
options_of Plays = codes "input" ∷ []

abbrev pub task_asked : Does → Given → Option Task
task_asked Checks given = Some Check
task_asked (Tells options asked) given = option_map (Tell []) (asked given)
task_asked (Supplies options asked) given =
    option_and_then (λ names. option_map (Tell names) (asked given)) (option_and_then names_given (given (codes "give")))
task_asked Works given = work_asked given
task_asked Plays given = Some Script

abbrev pub job_named : (name : List ℕ) → Given → Option Job
job_named name given =
    option_and_then (λ row. job_with (options_of row.does) (task_asked row.does given) given) (find (λ row. bytes_eq name row.name) jobs)

abbrev pub job_given : Given → Option Job
job_given given = option_and_then (λ name. job_named name given) (given (codes "JOB"))

-- what is told where the words ask for no job. It names the rows of the table (a law)
abbrev pub usage_text : List ℕ
usage_text = codes "usage: slif JOB [options]; jobs: run, check, expect, progress, work, script, more, slip, glades"

-- THE JOB THAT WORDS ASK FOR
abbrev pub job_asked : List (List ℕ) → Option Job
job_asked words =
    option_and_then (λ settings. if are_set_once settings then job_given (value_of settings) else None) (words_set words None)

abbrev pub Asks : List (List ℕ) → Job → Type 0
Asks words job = job_asked words ≡ Some job

-- the words ask for no job
abbrev pub AskNothing : List (List ℕ) → Type 0
AskNothing words = job_asked words ≡ None
