-- Outcomes that are written out, by the words, the grammar and the input: a value, a reading that stops, and a grammar refused by its
-- tokens, its statements, what these describe, and the check of what is built of them.
use Rattle.std.specs.Prelude.{ℕ, List, [], ◌∷◌, codes}
use Rattle.run_model.specs.Jobs.{work_grammar}
use Rattle.run_model.specs.Outcome.{IsOutcome, refused, done}
use Rattle.run_model.specs.Laws.{run_words}

-- whatever the input is, the grammar is refused with this line
abbrev pub Refuses : (grammar text : List ℕ) → Type 0
Refuses grammar text = (input : List ℕ) → IsOutcome run_words grammar input (refused 3 text)

pub record OutcomesOccur : Type 0 where
  pub value : IsOutcome run_words work_grammar (codes "a") (done (codes "undef\n" ∷ []))
  pub stopped : IsOutcome run_words work_grammar (codes "(ab") (refused 1 (codes "input stopped at line 1 column 3; found: none; expected: '(', ')', 'a'"))
  pub bad_token : Refuses (codes "$") (codes "grammar: bad token at line 1 column 1")
  pub bad_statement : Refuses (codes "a") (codes "grammar: bad statement at line 1 column 1")
  pub bad_description : Refuses (codes "a ~ b") (codes "grammar: no rule for b at line 1 column 5")
  pub bad_grammar : Refuses [] (codes "grammar: no rules")
