-- Laws of scripts: each has one list of answers, and one only; the answers to a line do not depend on what follows it; and whoever reads,
-- reads by a grammar that passed the check.
use Rattle.std.specs.Prelude.{◌≡◌, ℕ, ◌++◌, List}
use Rattle.grammar_model.specs.Checked.{IsChecked}
use Rattle.recognizer_model.specs.FewRules.{HasFewRules}
use Rattle.script_model.specs.Commands.{Reading}
use Rattle.script_model.specs.Machine.{Machine}
use Rattle.script_model.specs.Script.{Plays, AreAnswers}

abbrev pub AnswersExist : Type 0
AnswersExist = (text : List ℕ) → (answers : List (List ℕ)) × AreAnswers text answers

abbrev pub AnswersAreOne : Type 0
AnswersAreOne = (text : List ℕ) (xs ys : List (List ℕ)) → AreAnswers text xs → AreAnswers text ys → xs ≡ ys

-- whatever lines follow those that were played, the answers to these stay
abbrev pub AnswersGoOn : Type 0
AnswersGoOn = (lines more : List (List ℕ)) (m : Machine) (answers : List (List ℕ)) → Plays lines m answers →
    (rest : List (List ℕ)) × ((after : Machine) × Plays (lines ++ more) after (answers ++ rest))

-- a machine that reads has a grammar that passes the check, with few flat rules
abbrev pub MachinesAreSound : Type 0
MachinesAreSound = (lines : List (List ℕ)) (m : Machine) (answers : List (List ℕ)) → Plays lines m answers → m.phase ≡ Reading → IsChecked m.grammar × HasFewRules m.grammar
