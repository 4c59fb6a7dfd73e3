-- SCRIPTS. The lines of a script are answered one after another, from a machine that has nothing.
use Rattle.std.specs.Prelude.{ℕ, ◌++◌, List, [], ◌∷◌}
use Rattle.script_model.specs.Commands.{lines_of}
use Rattle.script_model.specs.Machine.{Machine, blank}
use Rattle.script_model.specs.Replies.{Reply, Replies}

-- after these lines the machine is so, and these are the lines of all answers
pub data Plays : (lines : List (List ℕ)) (machine : Machine) (answers : List (List ℕ)) → Type 0 where
  Begins : Plays [] blank []
  GoesOn : {lines : List (List ℕ)} {m : Machine} {answers : List (List ℕ)} (line : List ℕ) (reply : Reply) → Plays lines m answers → Replies m line reply →
      Plays (lines ++ line ∷ []) reply.after (answers ++ reply.lines)

-- these are the answers to the text of a script
pub record AreAnswers (text : List ℕ) (answers : List (List ℕ)) : Type 0 where
  pub machine : Machine
  pub plays : Plays (lines_of text) machine answers
