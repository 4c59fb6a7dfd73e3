-- How many steps a run may take, by what it tells.
use Rattle.std.specs.Prelude.{◌≡◌, ℕ, List, [], Option, None, ⊤}
use Rattle.std.specs.Io.KnownBytes.{Appends}
use Rattle.grammar_model.specs.declared.Ranking.TheVariants.{Rule as RuleRanks}
use Rattle.outside_model.specs.Told.{ToldFile}
use Rattle.language_model.specs.Building.{Built}
use Rattle.reading_model.specs.Reading.{Piece}
use Rattle.words_model.specs.Words.{Telling, Task, Job, Asks}
use Rattle.words_model.specs.Words.Task.{Check, Tell, Work, Script}
use Rattle.run_model.specs.Refused.{Accepted}
use Rattle.run_model.specs.Given.{AreGiven, AcceptedFor}
use Rattle.run_model.specs.Inputs.{IsRead}
use Rattle.run_model.specs.Telling.{GivesWithin, TellsWithin}
use Rattle.run_model.specs.Jobs.{work_grammar, work_input}
use Rattle.run_model.specs.Runs.{MayEnd}

-- the input is read to its end, and what is told of it is within its bound
pub record InputWithin (what : Telling) (b : Built) (given input : List ℕ) (before after : ℕ) : Type 0 where
  pub pieces : List Piece
  pub read : IsRead b given input pieces
  pub within : TellsWithin what b pieces before after

-- the input of `work` is read to its end, and its derivations are given
pub record WorkWithin (b : Built) (size before after : ℕ) : Type 0 where
  pub pieces : List Piece
  pub read : IsRead b [] (work_input size) pieces
  pub within : GivesWithin b RuleRanks None pieces before after

-- where the lexemes with these names are given
abbrev pub NamedWithin : Telling → (names : List (List ℕ)) → Built → (input : List ℕ) → (before after : ℕ) → Type 0
NamedWithin what names b input before after =
    (given : List ℕ) × AreGiven b names given × InputWithin what b given input before after

abbrev pub DoesWithin : Task → (grammar input : List ℕ) → (before after : ℕ) → Type 0
DoesWithin Check grammar input before after = ⊤
DoesWithin (Tell names what) grammar input before after =
    (b : Built) × AcceptedFor names grammar b × NamedWithin what names b input before after
DoesWithin (Work size) grammar input before after = (b : Built) × Accepted work_grammar b × WorkWithin b size before after
DoesWithin Script grammar input before after = ⊤

-- a run by the words over these files and this input: what was written is an outcome of status 0, and the steps are those of its grammar and
-- its input
pub record RunsWithin (words : List (List ℕ)) (file : List ℕ → ToldFile) (left out out_after : Option (List ℕ)) (before after : ℕ) : Type 0 where
  pub may : MayEnd words file left
  pub status_is : may.outcome.status ≡ 0
  pub written : Appends out out_after may.outcome.out
  pub does : (job : Job) → Asks words job → DoesWithin job.task may.grammar may.input before after
