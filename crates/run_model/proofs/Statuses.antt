-- An outcome of each status from 0 to 3.
use Rattle.std.proofs.Common.{ℕ, ◌<◌, List, [], ◌∷◌, ◌++◌, Some, None, false, refl, sym, arith, length}
use Rattle.std.specs.Prelude.{chars, codes}
use Rattle.grammar_model.specs.declared.Ranking.TheVariants.{Rule as RuleRanks}
use Rattle.grammar_model.specs.declared.Show.TheVariants.{Array as ShowArray}
use Rattle.grammar_model.specs.declared.limits.TheConstants.{LONGEST_GRAMMAR, LONGEST_INPUT}
use Rattle.words_model.specs.Words.{ValuesAsked, Job, Tell, Values, StandardInput}
use Rattle.run_model.specs.Texts.TextFault.{TooLong}
use Rattle.run_model.specs.Refused.IsRefused.{ByText}
use Rattle.run_model.specs.Given.IsRefusedFor.{ForGrammar}
use Rattle.run_model.specs.Inputs.IsInputRefused.{TooLong as InputTooLong}
use Rattle.run_model.specs.Jobs.{work_grammar, work_input}
use Rattle.run_model.specs.Telling.{value_lines}
use Rattle.run_model.specs.Telling.TellsValues.{Derived}
use Rattle.run_model.specs.Outcome.{Outcome, IsOutcome, IsWorkOutcome, refused, done}
use Rattle.run_model.specs.Outcome.IsOutcome.{NoJob, OfJob}
use Rattle.run_model.specs.Outcome.IsGrammarOutcome.{GrammarRefused, GrammarAccepted}
use Rattle.run_model.specs.Outcome.IsInputOutcome.{InputRefused, InputRead}
use Rattle.run_model.specs.Laws.{StatusesOccur, run_words}
use Rattle.run_model.proofs.Given.{none_given}
use Rattle.run_model.proofs.Inputs.{longest_told}
use Rattle.run_model.proofs.Accepted.{for_none}
use Rattle.run_model.proofs.Texts.{RunLaws}

abbrev asked : ValuesAsked
asked = record { show = ShowArray; ranking = RuleRanks; first = None; stats = false }

abbrev job : Job
job = record { grammar = Some (codes "g"); input = StandardInput; task = Tell [] (Values asked) }

module _ (outcome : Outcome) (w : IsWorkOutcome 1 outcome) where
  abbrev written : Outcome
  written = done (value_lines w.built asked (chars (work_input 1)) w.pieces (w.tree ∷ []) ++ [])

  is_written : IsOutcome run_words work_grammar (work_input 1) written
  is_written = OfJob job refl (GrammarAccepted w.built (for_none work_grammar w.built w.accepted) ([], none_given w.built, InputRead w.pieces w.read (Derived w.tree [] w.numbers w.one w.has refl)))

  of_long : (input : List ℕ) → LONGEST_INPUT < length input → IsOutcome run_words work_grammar input (refused 1 (codes "input is longer than 16777216 bytes"))
  of_long input long =
      OfJob job refl (GrammarAccepted w.built (for_none work_grammar w.built w.accepted)
      ([], none_given w.built, InputRefused (codes "input is longer than 16777216 bytes") (InputTooLong long (sym longest_told)) refl))

of_long_grammar : (grammar input : List ℕ) → LONGEST_GRAMMAR < length grammar → IsOutcome run_words grammar input (refused 3 (codes "grammar: longer than 1048576 bytes"))
of_long_grammar grammar input long =
    OfJob job refl (GrammarRefused (codes "grammar: longer than 1048576 bytes") (ForGrammar (ByText TooLong long refl)) refl)

pub statuses : RunLaws → StatusesOccur
statuses laws =
    let w = laws.work 1 (omega arith) in
    record {
      done = (written w.0 w.1, is_written w.0 w.1, refl);
      input_refused = of_long w.0 w.1;
      no_job = NoJob refl refl;
      grammar_refused = of_long_grammar;
    }
