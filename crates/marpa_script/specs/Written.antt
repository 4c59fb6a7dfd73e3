-- What a call that plays lines has written.
use Rattle.std.specs.Prelude.{◌≡◌, ◌++◌, ℕ, List, [], Option}
use Rattle.std.specs.List.{concat}
use Rattle.std.specs.Io.KnownBytes.{Appends}
use Rattle.outside_model.specs.Told.{AppendsPrefix}
use Rattle.script_model.specs.Commands.{lines_of}
use Rattle.script_model.specs.Machine.{Machine}
use Rattle.script_model.specs.Replies.{Reply}
use Rattle.script_model.specs.Script.{Plays, AreAnswers}

-- a reply of which P holds was written, and the machine is now that one
pub record Replied (P : Reply → Type 0) (after : Machine) (old new : Option (List ℕ)) : Type 0 where
  pub reply : Reply
  pub is : P reply
  pub after_is : reply.after ≡ after
  pub appends : Appends old new (concat reply.lines)

-- nothing was written, or a prefix of a reply of which P holds
pub data BreaksOff (P : Reply → Type 0) (old new : Option (List ℕ)) : Type 0 where
  Nothing : Appends old new [] → BreaksOff P old new
  Within : (reply : Reply) → P reply → AppendsPrefix old new (concat reply.lines) → BreaksOff P old new

-- the lines were played, the machine is now this one, and their answers were written
pub record HasPlayed (lines : List (List ℕ)) (machine : Machine) (old new : Option (List ℕ)) : Type 0 where
  pub answers : List (List ℕ)
  pub plays : Plays lines machine answers
  pub appends : Appends old new (concat answers)

-- the lines of a text up to a rest were played
pub record HasPlayedTo (text rest : List ℕ) (machine : Machine) (old new : Option (List ℕ)) : Type 0 where
  pub lines : List (List ℕ)
  pub cut : lines_of text ≡ lines ++ lines_of rest
  pub played : HasPlayed lines machine old new

-- the answers to the whole text were written
pub record Answered (text : List ℕ) (old new : Option (List ℕ)) : Type 0 where
  pub answers : List (List ℕ)
  pub are : AreAnswers text answers
  pub appends : Appends old new (concat answers)

-- a prefix of the answers to the whole text was written
pub record BreaksOffIn (text : List ℕ) (old new : Option (List ℕ)) : Type 0 where
  pub answers : List (List ℕ)
  pub are : AreAnswers text answers
  pub prefix : AppendsPrefix old new (concat answers)
