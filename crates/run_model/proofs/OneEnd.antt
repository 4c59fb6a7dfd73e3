-- Told content leaves a run one outcome.
use Rattle.std.proofs.Common.{◌≡◌, ◌≢◌, ℕ, List, [], Option, Some, None, IfSome, true≢false, refl, sym, subst, ◌∙◌}
use Rattle.std.specs.Prelude.{IsTrue, is_some}
use Rattle.outside_model.specs.Told.{ToldFile, MayHold}
use Rattle.outside_model.specs.Told.ToldFile.{Untold, Missing, Told}
use Rattle.language_model.specs.Building.{Built}
use Rattle.words_model.specs.Words.{Telling, Task, Job, InputFrom, Asks}
use Rattle.words_model.specs.Words.InputFrom.{Nowhere, StandardInput, FileNamed}
use Rattle.words_model.specs.Words.Task.{Check, Tell, Work, Script}
use Rattle.words_model.specs.Laws.{IsFitted}
use Rattle.words_model.proofs.Fitted.{jobs_are_fitted}
use Rattle.words_model.proofs.Asked.{asks_once, not_both}
use Rattle.run_model.specs.Given.{AcceptedFor, names_of}
use Rattle.run_model.specs.Outcome.{Outcome, IsOutcome, IsTaskOutcome, IsNamedOutcome, IsCheckOutcome, IsScriptOutcome}
use Rattle.run_model.specs.Outcome.IsOutcome.{NoJob, OfJob}
use Rattle.run_model.specs.Runs.{Accepts, Supplied, MayEnd, InputMayBe}
use Rattle.run_model.specs.Laws.{TellsFiles}
use Rattle.run_model.proofs.Texts.{RunLaws}
use Rattle.run_model.proofs.Checked.{one_check}
use Rattle.run_model.proofs.Told.{one_of_named}
use Rattle.run_model.proofs.Outcomes.{one_over, one_work}
use Rattle.run_model.proofs.Scripts.{one_script}

same_held : (told : ToldFile) (x y : List ℕ) → told ≢ Untold → MayHold told x → MayHold told y → x ≡ y
same_held Untold x y is_told p q = absurd (is_told refl)
same_held Missing x y is_told p q = absurd p
same_held (Told known) x y is_told p q = p ∙ sym q

module _ (laws : RunLaws) (words : List (List ℕ)) (file : List ℕ → ToldFile) (known : List ℕ) (tells : TellsFiles words file) where
  abbrev Has : List ℕ → List ℕ → Type 0
  Has grammar input = Supplied words file (Some known) grammar input

  one_input : (from : InputFrom) (x y : List ℕ) → from ≢ Nowhere → ((name : List ℕ) → from ≡ FileNamed name → file name ≢ Untold)
      → InputMayBe from file (Some known) x → InputMayBe from file (Some known) y → y ≡ x
  one_input Nowhere x y some told p q = absurd (some refl)
  one_input StandardInput x y some told p q = q ∙ sym p
  one_input (FileNamed name) x y some told p q = same_held (file name) y x (told name refl) q p

  -- an input counts only where the job goes on to it
  same_input : (job : Job) → Asks words job → job.input ≢ Nowhere → (grammar x y : List ℕ) → Accepts job grammar
      → Has grammar x → Has grammar y → y ≡ x
  same_input job asks some grammar x y goes p q =
      one_input job.input x y some (λ name e. tells.input job name asks e) (p.input_held job asks goes) (q.input_held job asks goes)

  -- a task that has the file of a grammar
  one_of_task : (task : Task) (grammar x y : List ℕ) (a b : Outcome) → ((names : List (List ℕ)) (what : Telling) → task ≡ Tell names what → (c : Built) → AcceptedFor (names_of task) grammar c → y ≡ x)
      → (task ≡ Script → ⊥) → IsTaskOutcome task grammar x a → IsTaskOutcome task grammar y b → a ≡ b
  one_of_task Check grammar x y a b same other of_x of_y = one_over laws IsCheckOutcome IsCheckOutcome [] grammar a b (λ c accepted. one_check c a b) of_x of_y
  one_of_task (Tell names what) grammar x y a b same other of_x of_y =
      one_over laws (λ c. IsNamedOutcome what names c x) (λ c. IsNamedOutcome what names c y) names grammar a b
      (λ c p in_x in_y. one_of_named laws.reading c (p.accepted.description, p.accepted.built) what names x a b in_x
      (subst (λ l. IsNamedOutcome what names c l b) (same names what refl c p) in_y)) of_x of_y
  one_of_task (Work size) grammar x y a b same other of_x of_y = one_work laws size a b of_x of_y
  one_of_task Script grammar x y a b same other of_x of_y = absurd (other refl)

  -- what is told is told of an input somewhere, and goes on to it by the grammar of a file
  reads_somewhere : (job : Job) → Asks words job → (names : List (List ℕ)) (what : Telling) → job.task ≡ Tell names what → job.input ≢ Nowhere
  reads_somewhere job asks names what is = (subst (λ (t : Task). IsFitted t job.grammar job.input) is (jobs_are_fitted words job asks)).1

  has_no_grammar : (job : Job) → Asks words job → job.task ≡ Script → job.grammar ≡ None
  has_no_grammar job asks is = (subst (λ (t : Task). IsFitted t job.grammar job.input) is (jobs_are_fitted words job asks)).0

  goes : (file : Option (List ℕ)) (names : List (List ℕ)) (grammar : List ℕ) (c : Built) → AcceptedFor names grammar c → IfSome file (λ _. (b : Built) × AcceptedFor names grammar b)
  goes None names grammar c accepted = record {}
  goes (Some name) names grammar c accepted = (c, accepted)

  one_of_job : (job : Job) → Asks words job → (name : List ℕ) → job.grammar ≡ Some name → (grammar x y : List ℕ) (a b : Outcome) → Has grammar x → Has grammar y
      → IsTaskOutcome job.task grammar x a → IsTaskOutcome job.task grammar y b → a ≡ b
  one_of_job job asks name named grammar x y a b p q of_x of_y =
      one_of_task job.task grammar x y a b (λ names what is c accepted. same_input job asks (reads_somewhere job asks names what is) grammar x y (goes job.grammar (names_of job.task) grammar c accepted) p q)
      (λ is. let bad : None ≡ Some name = sym (has_no_grammar job asks is) ∙ named in cc bad) of_x of_y

  -- a job's outcome is of the grammar that its file holds
  over_same : (job : Job) → Asks words job → (name : List ℕ) → job.grammar ≡ Some name → (grammar grammar' x y : List ℕ) (a b : Outcome) → grammar' ≡ grammar → Has grammar x → Has grammar' y
      → IsTaskOutcome job.task grammar x a → IsTaskOutcome job.task grammar' y b → a ≡ b
  over_same job asks name named grammar grammar' x y a b same p q of of' =
      one_of_job job asks name named grammar x y a b p (subst (λ l. Has l y) same q) of (subst (λ l. IsTaskOutcome job.task l y b) same of')

  held_in : (job : Job) (name grammar grammar' x y : List ℕ) → Asks words job → job.grammar ≡ Some name → Has grammar x → Has grammar' y → grammar' ≡ grammar
  held_in job name grammar grammar' x y asks named p q =
      same_held (file name) grammar' grammar (of_file (λ n. file n ≢ Untold) (tells.grammar job asks)) (of_file (λ n. MayHold (file n) grammar') (q.grammar_held job asks))
      (of_file (λ n. MayHold (file n) grammar) (p.grammar_held job asks))
    where
      of_file : (P : List ℕ → Type 0) → IfSome job.grammar P → P name
      of_file P held = subst (λ (o : Option (List ℕ)). IfSome o P) named held

  -- a task that has no file of a grammar is that of job `work`, whatever the bytes are, or is done over its input alone
  one_of_own : (task : Task) (file : Option (List ℕ)) (from : InputFrom) → IsFitted task file from → file ≡ None → (grammar grammar' x y : List ℕ) (a b : Outcome)
      → (from ≢ Nowhere → y ≡ x) → IsTaskOutcome task grammar x a → IsTaskOutcome task grammar' y b → a ≡ b
  one_of_own Check file from fitted none grammar grammar' x y a b same of of' = let bad = subst (λ (o : Option (List ℕ)). IsTrue (is_some o)) none fitted.0 in absurd (true≢false (sym bad))
  one_of_own (Tell names what) file from fitted none grammar grammar' x y a b same of of' = let bad = subst (λ (o : Option (List ℕ)). IsTrue (is_some o)) none fitted.0 in absurd (true≢false (sym bad))
  one_of_own (Work size) file from fitted none grammar grammar' x y a b same of of' = one_work laws size a b of of'
  one_of_own Script file from fitted none grammar grammar' x y a b same of of' =
      one_script laws.scripts x a b of (subst (λ l. IsScriptOutcome l b) (same fitted.1) of')

  -- without a grammar the job goes on to its input
  goes_on : (job : Job) → job.grammar ≡ None → (grammar : List ℕ) → Accepts job grammar
  goes_on job none grammar = subst (λ (o : Option (List ℕ)). IfSome o (λ _. (b : Built) × AcceptedFor (names_of job.task) grammar b)) (sym none) (record {})

  same_of_own : (job : Job) → Asks words job → job.grammar ≡ None → (grammar grammar' x y : List ℕ) → Has grammar x → Has grammar' y → job.input ≢ Nowhere → y ≡ x
  same_of_own job asks none grammar grammar' x y p q some =
      one_input job.input x y some (λ name e. tells.input job name asks e) (p.input_held job asks (goes_on job none grammar)) (q.input_held job asks (goes_on job none grammar'))

  one_of_jobs : (job : Job) → Asks words job → (grammar grammar' x y : List ℕ) (a b : Outcome) → Has grammar x → Has grammar' y
      → IsTaskOutcome job.task grammar x a → IsTaskOutcome job.task grammar' y b → a ≡ b
  one_of_jobs job asks grammar grammar' x y a b p q of of' = by_file job.grammar refl
    where
      by_file : (file : Option (List ℕ)) → job.grammar ≡ file → a ≡ b
      by_file None none = one_of_own job.task job.grammar job.input (jobs_are_fitted words job asks) none grammar grammar' x y a b (same_of_own job asks none grammar grammar' x y p q) of of'
      by_file (Some name) named = over_same job asks name named grammar grammar' x y a b (held_in job name grammar grammar' x y asks named p q) p q of of'

  one_of_two : (grammar grammar' x y : List ℕ) (a b : Outcome) → Has grammar x → Has grammar' y → IsOutcome words grammar x a → IsOutcome words grammar' y b → a ≡ b
  one_of_two grammar grammar' x y a b p q (NoJob none is) (NoJob none' is') = is ∙ sym is'
  one_of_two grammar grammar' x y a b p q (NoJob none is) (OfJob job asks of) = absurd (not_both words job asks none)
  one_of_two grammar grammar' x y a b p q (OfJob job asks of) (NoJob none is) = absurd (not_both words job asks none)
  one_of_two grammar grammar' x y a b p q (OfJob job asks of) (OfJob job' asks' of') =
      one_of_jobs job asks grammar grammar' x y a b p q of (subst (λ (j : Job). IsTaskOutcome j.task grammar' y b) (sym (asks_once words job job' asks asks')) of')

  pub one_end_of : (a b : MayEnd words file (Some known)) → a.outcome ≡ b.outcome
  one_end_of a b = one_of_two a.grammar b.grammar a.input b.input a.outcome b.outcome a.supplied b.supplied a.is_outcome b.is_outcome
