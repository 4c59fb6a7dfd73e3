-- What is needed of grammar texts and of all else that a run comes to.
use Rattle.std.proofs.Common.{◌≡◌, ℕ, ◌≤◌, List, ◌⊎◌}
use Rattle.language_model.specs.Description.{Statement}
use Rattle.language_model.specs.Texts.{HasDescription}
use Rattle.grammar_model.specs.Grammar.{Grammar}
use Rattle.reading_model.proofs.Accepting.{CheckLaws}
use Rattle.script_model.specs.Script.{AreAnswers}
use Rattle.run_model.specs.Texts.{TextFault, HasFault}
use Rattle.run_model.proofs.Inputs.{ReadingLaws}
use Rattle.run_model.specs.Checking.{SymbolRow, IsRowOf}
use Rattle.run_model.specs.Outcome.{Outcome, IsWorkOutcome}

-- a text has one description or one fault
pub record TextLaws : Type 0 where
  pub read : (bytes : List ℕ) → ((d : List Statement) × HasDescription bytes d) ⊎ ((f : TextFault) × HasFault bytes f)
  pub one_description : (bytes : List ℕ) (d e : List Statement) → HasDescription bytes d → HasDescription bytes e → d ≡ e
  pub one_fault : (bytes : List ℕ) (f g : TextFault) → HasFault bytes f → HasFault bytes g → f ≡ g
  pub not_both : (bytes : List ℕ) (d : List Statement) (f : TextFault) → HasDescription bytes d → HasFault bytes f → ⊥

-- and checks decide
pub record GrammarLaws : Type 0 where
  pub texts : TextLaws
  pub checks : CheckLaws

-- each script has answers, and they are one list
pub record ScriptLaws : Type 0 where
  pub answers : (text : List ℕ) → (answers : List (List ℕ)) × AreAnswers text answers
  pub one_list : (text : List ℕ) (xs ys : List (List ℕ)) → AreAnswers text xs → AreAnswers text ys → xs ≡ ys

-- and of the rest: what each symbol can do is decided, texts have one reading, job `work` has an outcome, and scripts have answers
pub record RunLaws : Type 0 where
  pub grammars : GrammarLaws
  pub reading : ReadingLaws
  pub row : (g : Grammar) (s : ℕ) → (row : SymbolRow) × (row.symbol ≡ s) × IsRowOf g row
  pub work : (size : ℕ) → size ≤ 100000 → (outcome : Outcome) × IsWorkOutcome size outcome
  pub scripts : ScriptLaws
