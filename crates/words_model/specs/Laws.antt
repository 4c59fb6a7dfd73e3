-- Laws of the definitions.
use Rattle.std.specs.Prelude.{◌≡◌, ◌≢◌, ℕ, ◌≤◌, Bool, true, false, not, IsTrue, List, ◌∷◌, ◌++◌, ◌⊎◌, Option, Some, None, is_some, bytes_eq, codes, length}
use Rattle.std.specs.List.{list_all, join_by}
use Rattle.language_model.specs.Building.{is_one_of}
use Rattle.words_model.specs.Words.{Job, Task, Check, Tell, Work, Script, InputFrom, Nowhere, Setting, Asks, AskNothing, is_dashed, job_asked, jobs, usage_text, with_value, words_set}

-- the words ask for a job or for none, and for one at most
abbrev pub HasJobOrNone : Type 0
HasJobOrNone = (words : List (List ℕ)) → ((job : Job) × Asks words job) ⊎ AskNothing words

abbrev pub HasOneJob : Type 0
HasOneJob = (words : List (List ℕ)) (a b : Job) → Asks words a → Asks words b → a ≡ b

-- the task has the grammar and the input that it needs, and no other; job `work` has a size within its bounds
abbrev pub IsFitted : Task → (grammar : Option (List ℕ)) → InputFrom → Type 0
IsFitted Check grammar input = IsTrue (is_some grammar) × (input ≡ Nowhere)
IsFitted (Tell given what) grammar input = IsTrue (is_some grammar) × (input ≢ Nowhere) × (length given ≤ 8)
IsFitted (Work size) grammar input = (grammar ≡ None) × (input ≡ Nowhere) × (size ≤ 100000)
IsFitted Script grammar input = (grammar ≡ None) × (input ≢ Nowhere)

abbrev pub JobsAreFitted : Type 0
JobsAreFitted = (words : List (List ℕ)) (job : Job) → Asks words job → IsFitted job.task job.grammar job.input

-- the usage names the jobs of the table, in order
abbrev pub UsageNamesJobs : Type 0
UsageNamesJobs = usage_text ≡ codes "usage: slif JOB [options]; jobs: " ++ join_by (λ row. row.name) (codes ", ") jobs

-- `--name value` and `--name=value` set the same
abbrev pub SpellingsAgree : Type 0
SpellingsAgree = (name value : List ℕ) (words : List (List ℕ)) → is_one_of with_value name ≡ true → is_dashed value ≡ false
    → words_set ((codes "--" ++ name) ∷ value ∷ words) None ≡ words_set ((codes "--" ++ name ++ 61 ∷ value) ∷ words) None

-- no word ends the options
abbrev pub has_no_end : List (List ℕ) → Bool
has_no_end words = list_all (λ word. not (bytes_eq word (codes "--"))) words

-- two parts of the words that each set something may change places
abbrev pub PartsChangePlaces : Type 0
PartsChangePlaces = (prefix back : List (List ℕ)) (settings more : List Setting) → has_no_end prefix ≡ true → has_no_end back ≡ true
    → words_set prefix None ≡ Some settings → words_set back None ≡ Some more → job_asked (prefix ++ back) ≡ job_asked (back ++ prefix)
