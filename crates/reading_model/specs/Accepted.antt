-- Which grammars of a text are accepted: each passes the check, and has not too many flat rules. The lexical grammar counts only
-- where there is a lexeme or a discard.
-- Source: the Libmarpa manual (precomputation of grammars); the limit of flat rules is our own.
use Rattle.std.specs.Prelude.{ℕ, ◌<◌, ◌≤◌, Bool, true, false, length}
use Rattle.grammar_model.specs.Grammar.{Grammar}
use Rattle.grammar_model.specs.Checked.{IsChecked, Refusal, Refuses}
pub use Rattle.recognizer_model.specs.FewRules.{HasFewRules, HasTooManyRules}
use Rattle.language_model.specs.Building.{Built}

-- there is a lexeme or a discard: each is a start of the lexical grammar
abbrev pub IsLexical : Built → Type 0
IsLexical b = 0 < length b.l0.starts

pub record AreChecked (b : Built) : Type 0 where
  pub structural : IsChecked b.g1
  pub lexical : IsLexical b → IsChecked b.l0

pub record IsAccepted (b : Built) : Type 0 where
  pub checked : AreChecked b
  pub structural : HasFewRules b.g1
  pub lexical : IsLexical b → HasFewRules b.l0

-- why the grammars are not accepted: a check of one of them, or too many flat rules of one
pub data GrammarFault : Type 0 where
  Structural : (refusal : Refusal) → GrammarFault
  Lexical : (refusal : Refusal) → GrammarFault
  TooManyRules : (lexical : Bool) → GrammarFault

-- both are checked before the rules of either are counted
abbrev pub HasGrammarFault : Built → GrammarFault → Type 0
HasGrammarFault b (Structural refusal) = Refuses b.g1 refusal
HasGrammarFault b (Lexical refusal) = IsChecked b.g1 × IsLexical b × Refuses b.l0 refusal
HasGrammarFault b (TooManyRules false) = AreChecked b × HasTooManyRules b.g1
HasGrammarFault b (TooManyRules true) = AreChecked b × HasFewRules b.g1 × IsLexical b × HasTooManyRules b.l0
