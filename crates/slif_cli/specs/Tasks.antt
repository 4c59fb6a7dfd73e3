-- What a job asks for.
use Rattle.std.specs.Prelude.{◌≡◌, ℕ, List, [], Some}
use Rattle.words_model.specs.Words as words
use Rattle.words_model.specs.Words.{InputFrom}
use Rattle.run_model.specs.Within.{DoesWithin}

-- job `work` asks nothing of a grammar or an input
abbrev pub WorksWithin : (size : ℕ) → (before after : ℕ) → Type 0
WorksWithin size before after = DoesWithin (words.Work size) [] [] before after

-- the job checks the grammar of that file
pub record IsCheckJob (job : words.Job) (grammar : List ℕ) : Type 0 where
  pub named : job.grammar ≡ Some grammar
  pub task : job.task ≡ words.Check

-- the job tells this of the input from there, by the grammar of that file, where lexemes with these names are given
pub record IsTellJob (job : words.Job) (grammar : List ℕ) (from : InputFrom) (names : List (List ℕ)) (what : words.Telling) : Type 0 where
  pub named : job.grammar ≡ Some grammar
  pub input : job.input ≡ from
  pub task : job.task ≡ words.Tell names what

-- the job plays the input from there
pub record IsScriptJob (job : words.Job) (from : InputFrom) : Type 0 where
  pub input : job.input ≡ from
  pub task : job.task ≡ words.Script
