-- An outcome exists, whatever the words, the grammar and the input are.
use Rattle.std.proofs.Common.{ℕ, List, [], Option, refl, inl, inr}
use Rattle.language_model.specs.Building.{Built}
use Rattle.language_model.specs.Texts.{IsBuilt}
use Rattle.words_model.specs.Words.{Task, InputFrom}
use Rattle.words_model.specs.Words.Task.{Check, Tell, Work, Script}
use Rattle.words_model.specs.Laws.{IsFitted}
use Rattle.words_model.proofs.Asked.{asks_or_not}
use Rattle.words_model.proofs.Fitted.{jobs_are_fitted}
use Rattle.run_model.specs.Given.{AcceptedFor}
use Rattle.run_model.specs.Outcome.{Outcome, IsOutcome, IsGrammarOutcome, IsTaskOutcome, IsCheckOutcome, IsNamedOutcome, usage, refused}
use Rattle.run_model.specs.Outcome.IsOutcome.{NoJob, OfJob}
use Rattle.run_model.specs.Outcome.IsGrammarOutcome.{GrammarRefused, GrammarAccepted}
use Rattle.run_model.proofs.Texts.{RunLaws}
use Rattle.run_model.proofs.Accepted.{judged_for}
use Rattle.run_model.proofs.Checked.{check_outcome}
use Rattle.run_model.proofs.Told.{some_of_named}
use Rattle.run_model.proofs.Scripts.{script_outcome}

module _ (laws : RunLaws) where
  over_grammar : (IsOver : Built → Outcome → Type 0) (names : List (List ℕ)) (grammar : List ℕ) → ((b : Built) → AcceptedFor names grammar b → (outcome : Outcome) × IsOver b outcome)
      → (outcome : Outcome) × IsGrammarOutcome names grammar IsOver outcome
  over_grammar IsOver names grammar over = elim (judged_for laws.grammars grammar names) [
    | inl some ↦ (let o = over some.0 some.1 in (o.0, GrammarAccepted some.0 some.1 o.1))
    | inr refusal ↦ (refused 3 refusal.0, GrammarRefused refusal.0 refusal.1 refl)
  ]

  task_outcome : (task : Task) (file : Option (List ℕ)) (from : InputFrom) → IsFitted task file from → (grammar input : List ℕ) → (outcome : Outcome) × IsTaskOutcome task grammar input outcome
  task_outcome Check file from fitted grammar input = over_grammar IsCheckOutcome [] grammar (λ b accepted. check_outcome laws b)
  task_outcome (Tell names what) file from fitted grammar input =
      over_grammar (λ b. IsNamedOutcome what names b input) names grammar
      (λ b p. let built : IsBuilt b = (p.accepted.description, p.accepted.built) in some_of_named laws.reading b built p.accepted.accepted what names p.lexemes input)
  task_outcome (Work size) file from fitted grammar input = laws.work size fitted.2
  task_outcome Script file from fitted grammar input = script_outcome laws.scripts input

  pub an_outcome : (words : List (List ℕ)) (grammar input : List ℕ) → (outcome : Outcome) × IsOutcome words grammar input outcome
  an_outcome words grammar input = elim (asks_or_not words) [
    | inl some ↦ (let job = some.0 in let o = task_outcome job.task job.grammar job.input (jobs_are_fitted words job some.1) grammar input in (o.0, OfJob some.0 some.1 o.1))
    | inr none ↦ (usage, NoJob none refl)
  ]
