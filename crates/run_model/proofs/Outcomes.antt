-- An outcome is determined by the words, the grammar and the input.
use Rattle.std.proofs.Common.{◌≡◌, ℕ, List, [], ◌∷◌, sym, ap, subst, ◌∙◌}
use Rattle.grammar_model.specs.declared.Ranking.TheVariants.{Rule as RuleRanks}
use Rattle.language_model.specs.Building.{Built}
use Rattle.reading_model.specs.Reading.{Piece}
use Rattle.words_model.specs.Words.{Task, Job}
use Rattle.words_model.specs.Words.Task.{Check, Tell, Work, Script}
use Rattle.words_model.proofs.Asked.{asks_once, not_both}
use Rattle.run_model.specs.Given.{AcceptedFor}
use Rattle.run_model.specs.Inputs.{IsRead}
use Rattle.run_model.specs.Numbers.{Numbers, HasNumbers}
use Rattle.run_model.specs.Jobs.{work_grammar, work_input}
use Rattle.run_model.specs.Telling.{work_line}
use Rattle.run_model.specs.Outcome.{Outcome, IsOutcome, IsGrammarOutcome, IsTaskOutcome, IsNamedOutcome, IsCheckOutcome, IsWorkOutcome, done, refused}
use Rattle.run_model.specs.Outcome.IsOutcome.{NoJob, OfJob}
use Rattle.run_model.specs.Outcome.IsGrammarOutcome.{GrammarRefused, GrammarAccepted}
use Rattle.run_model.proofs.Texts.{RunLaws}
use Rattle.run_model.proofs.Inputs.{one_read}
use Rattle.run_model.proofs.Accepted.{one_built, one_built_for, one_refused_for, not_refused_for}
use Rattle.run_model.proofs.Checked.{one_check}
use Rattle.run_model.proofs.Told.{one_of_named}
use Rattle.run_model.proofs.Scripts.{one_script}

module _ (laws : RunLaws) where
  -- two outcomes that come of a grammar are one, where those over what was built of it are
  pub one_over : (P Q : Built → Outcome → Type 0) (names : List (List ℕ)) (grammar : List ℕ) (x y : Outcome) → ((b : Built) → AcceptedFor names grammar b → P b x → Q b y → x ≡ y)
      → IsGrammarOutcome names grammar P x → IsGrammarOutcome names grammar Q y → x ≡ y
  one_over P Q names grammar x y one (GrammarRefused t refused_t is) (GrammarRefused u refused_u is') = is ∙ ap (refused 3) (one_refused_for laws.grammars grammar names t u refused_t refused_u) ∙ sym is'
  one_over P Q names grammar x y one (GrammarRefused t refused_t is) (GrammarAccepted c accepted over) = absurd (not_refused_for laws.grammars grammar names c t accepted refused_t)
  one_over P Q names grammar x y one (GrammarAccepted c accepted over) (GrammarRefused t refused_t is) = absurd (not_refused_for laws.grammars grammar names c t accepted refused_t)
  one_over P Q names grammar x y one (GrammarAccepted c accepted over) (GrammarAccepted d accepted' over') =
      one c accepted over (subst (λ (k : Built). Q k y) (sym (one_built_for laws.grammars grammar names c d accepted accepted')) over')

  pub one_work : (size : ℕ) (x y : Outcome) → IsWorkOutcome size x → IsWorkOutcome size y → x ≡ y
  one_work size x y p q =
      let built : q.built ≡ p.built = one_built laws.grammars work_grammar q.built p.built q.accepted p.accepted in
      let read : IsRead p.built [] (work_input size) q.pieces = subst (λ (b : Built). IsRead b [] (work_input size) q.pieces) built q.read in
      let pieces : q.pieces ≡ p.pieces = one_read laws.reading p.built [] (work_input size) q.pieces p.pieces read p.read in
      let has : HasNumbers p.built RuleRanks p.pieces q.numbers =
      subst (λ (ps : List Piece). HasNumbers p.built RuleRanks ps q.numbers) pieces (subst (λ (b : Built). HasNumbers b RuleRanks q.pieces q.numbers) built q.has) in
      p.is ∙ ap (λ (n : Numbers). done (work_line size n 1 ∷ [])) (laws.reading.one_numbers p.built RuleRanks p.pieces p.numbers q.numbers p.has has) ∙ sym q.is

  one_task : (task : Task) (grammar input : List ℕ) (x y : Outcome) → IsTaskOutcome task grammar input x → IsTaskOutcome task grammar input y → x ≡ y
  one_task Check grammar input x y p q = one_over IsCheckOutcome IsCheckOutcome [] grammar x y (λ b accepted. one_check b x y) p q
  one_task (Tell names what) grammar input x y p q =
      one_over (λ b. IsNamedOutcome what names b input) (λ b. IsNamedOutcome what names b input) names grammar x y
      (λ b accepted. one_of_named laws.reading b (accepted.accepted.description, accepted.accepted.built) what names input x y) p q
  one_task (Work size) grammar input x y p q = one_work size x y p q
  one_task Script grammar input x y p q = one_script laws.scripts input x y p q

  pub one_of_all : (words : List (List ℕ)) (grammar input : List ℕ) (a b : Outcome) → IsOutcome words grammar input a → IsOutcome words grammar input b → a ≡ b
  one_of_all words grammar input a b (NoJob none is) (NoJob none' is') = is ∙ sym is'
  one_of_all words grammar input a b (NoJob none is) (OfJob job asks of) = absurd (not_both words job asks none)
  one_of_all words grammar input a b (OfJob job asks of) (NoJob none is) = absurd (not_both words job asks none)
  one_of_all words grammar input a b (OfJob job asks of) (OfJob job' asks' of') =
      one_task job.task grammar input a b of (subst (λ (j : Job). IsTaskOutcome j.task grammar input b) (sym (asks_once words job job' asks asks')) of')
