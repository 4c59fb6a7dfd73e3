-- The faults of grammars, as a program tells them.
use Rattle.std.specs.Prelude.{◌≡◌, ◌<◌, Bool, true, false, length, Option, Some, None}
use Rattle.grammar_model.specs.Grammar.{Grammar}
use Rattle.grammar_model.specs.Checked as model
use Rattle.grammar_model.specs.Checked.{IsChecked}
use Rattle.recognizer_model.specs.Flat.{FlatGrammar}
use Rattle.flat_model.specs.Flattened.{IsFlattened}
use Rattle.language_model.specs.Building.{Built}
pub use Rattle.grammar_check.specs.Said.{Says, IsSaid}
use Rattle.reading_model.specs.Accepted.{Structural, Lexical, TooManyRules, HasGrammarFault, HasFewRules, HasTooManyRules}
use Rattle.prepared_grammars.specs.declared.parts.Fault.{Fault}
use Rattle.prepared_grammars.specs.declared.parts.Fault.TheVariants.{Refused, TooManyRules as FaultTooMany, NoMemory as FaultNoMemory}
use Rattle.prepared_grammars.specs.declared.refusal.PrepareRefusal.{PrepareRefusal}
use Rattle.prepared_grammars.specs.declared.refusal.PrepareRefusal.TheVariants.{Grammar as RefusesGrammar, Lexical as RefusesLexical, TooManyRules as RefusesRules, NoMemory as RefusesMemory}

-- WHAT PREPARING REFUSES

-- the first fault of the grammars, with the grammar that was checked, or want of memory
abbrev pub IsRefusal : Built → PrepareRefusal → Type 0
IsRefusal b (RefusesGrammar w refusal) = (w ≡ b.g1) × IsSaid b.g1 refusal (λ r. HasGrammarFault b (Structural r))
IsRefusal b (RefusesLexical w refusal) = (w ≡ b.l0) × IsSaid b.l0 refusal (λ r. HasGrammarFault b (Lexical r))
IsRefusal b (RefusesRules lexical) = HasGrammarFault b (TooManyRules lexical)
IsRefusal b RefusesMemory = Unit {0}

-- the same of a fault that does not carry the grammar
abbrev pub IsFault : Built → Fault → Type 0
IsFault b (Refused false refusal) = IsSaid b.g1 refusal (λ r. HasGrammarFault b (Structural r))
IsFault b (Refused true refusal) = IsSaid b.l0 refusal (λ r. HasGrammarFault b (Lexical r))
IsFault b (FaultTooMany lexical) = HasGrammarFault b (TooManyRules lexical)
IsFault b FaultNoMemory = Unit {0}

-- STEPS

-- the check of one grammar refuses it
abbrev pub IsRefusedBy : Grammar → Bool → Fault → Type 0
IsRefusedBy g lexical (Refused which refusal) = (which ≡ lexical) × IsSaid g refusal (model.Refuses g)
IsRefusedBy g lexical (FaultTooMany which) = ⊥
IsRefusedBy g lexical FaultNoMemory = Unit {0}

-- one grammar has too many flat rules
abbrev pub IsOverfull : Grammar → Bool → Fault → Type 0
IsOverfull g lexical (Refused which refusal) = ⊥
IsOverfull g lexical (FaultTooMany which) = (which ≡ lexical) × HasTooManyRules g
IsOverfull g lexical FaultNoMemory = Unit {0}

-- the lexical grammar is checked where it has a start
abbrev pub IsCheckedLexical : Grammar → Option Grammar → Type 0
IsCheckedLexical l0 None = length l0.starts ≡ 0
IsCheckedLexical l0 (Some c) = (c ≡ l0) × (0 < length l0.starts) × IsChecked l0

-- and then it has a flat form
abbrev pub IsFlatLexical : Option Grammar → Option FlatGrammar → Type 0
IsFlatLexical None None = Unit {0}
IsFlatLexical None (Some flat) = ⊥
IsFlatLexical (Some c) None = ⊥
IsFlatLexical (Some c) (Some flat) = IsFlattened c flat × HasFewRules c

abbrev pub IsLexicalOverfull : Option Grammar → Fault → Type 0
IsLexicalOverfull None fault = ⊥
IsLexicalOverfull (Some c) fault = IsOverfull c true fault
