-- From the faults of each step to those of the grammars.
use Rattle.std.proofs.Common.{◌≡◌, ◌<◌, true, false, length, Option, Some, None, subst, arith, List}
use Rattle.grammar_model.specs.Grammar.{Grammar}
use Rattle.grammar_model.specs.Checked.{IsChecked}
use Rattle.recognizer_model.specs.Flat.{FlatGrammar}
use Rattle.flat_model.specs.Flattened.{IsFlattened}
pub use Rattle.flat_rules.proofs.Counted.{few_rules, many_rules}
use Rattle.language_model.specs.Building.{Built}
pub use Rattle.grammar_check.proofs.Saying.{said}
use Rattle.reading_model.specs.Accepted.{AreChecked, HasFewRules, HasTooManyRules}
use Rattle.prepared_grammars.specs.declared.abilities.Ability.{Ability}
use Rattle.prepared_grammars.specs.declared.parts.Fault.{Fault}
use Rattle.prepared_grammars.specs.declared.parts.Fault.TheVariants.{Refused, TooManyRules as FaultTooMany, NoMemory as FaultNoMemory}
use Rattle.prepared_grammars.specs.Abilities.{AreAbilities}
use Rattle.prepared_grammars.specs.Faults.{IsFault, IsRefusedBy, IsOverfull, IsCheckedLexical, IsFlatLexical, IsLexicalOverfull}
use Rattle.prepared_grammars.specs.Prepared.{AreParts, IsLexicalForm}

-- FAULTS

pub structural_fault : (b : Built) (fault : Fault) → IsRefusedBy b.g1 false fault → IsFault b fault
structural_fault b (Refused false refusal) (e, is) = record { of = is.of; told = is.told; says = is.says; fault = is.fault }
structural_fault b (Refused true refusal) (e, is) = cc
structural_fault b (FaultTooMany which) is = absurd is
structural_fault b FaultNoMemory is = tt

pub lexical_fault : (b : Built) (fault : Fault) → IsChecked b.g1 → (0 < length b.l0.starts) × IsRefusedBy b.l0 true fault → IsFault b fault
lexical_fault b (Refused true refusal) c (some, (e, is)) = record { of = is.of; told = is.told; says = is.says; fault = (c, some, is.fault) }
lexical_fault b (Refused false refusal) c (some, (e, is)) = cc
lexical_fault b (FaultTooMany which) c (some, is) = absurd is
lexical_fault b FaultNoMemory c is = tt

pub are_checked : (b : Built) (c : Option Grammar) → IsChecked b.g1 → IsCheckedLexical b.l0 c → AreChecked b
are_checked b None structural none = record { structural = structural; lexical = λ some. absurd (omega (arith, some, none)) }
are_checked b (Some g) structural (same, some, lexical) = record { structural = structural; lexical = λ _. lexical }

pub overfull_fault : (b : Built) (g : Grammar) (fault : Fault) → g ≡ b.g1 → AreChecked b → IsOverfull g false fault → IsFault b fault
overfull_fault b g (Refused which refusal) same c is = absurd is
overfull_fault b g (FaultTooMany false) same c (e, many) = (c, subst HasTooManyRules same many)
overfull_fault b g (FaultTooMany true) same c (e, many) = cc
overfull_fault b g FaultNoMemory same c is = tt

pub lexical_overfull : (b : Built) (c : Option Grammar) (fault : Fault) → AreChecked b → HasFewRules b.g1 → IsCheckedLexical b.l0 c → IsLexicalOverfull c fault → IsFault b fault
lexical_overfull b None fault checked few is over = absurd over
lexical_overfull b (Some g) (Refused which refusal) checked few is over = absurd over
lexical_overfull b (Some g) (FaultTooMany true) checked few (same, some, l) (e, many) = (checked, few, some, subst HasTooManyRules same many)
lexical_overfull b (Some g) (FaultTooMany false) checked few is (e, many) = cc
lexical_overfull b (Some g) FaultNoMemory checked few is over = tt

-- PARTS

lexical_form : (b : Built) (c : Option Grammar) (lexical : Option FlatGrammar) → IsCheckedLexical b.l0 c → IsFlatLexical c lexical → IsLexicalForm b lexical × (0 < length b.l0.starts → HasFewRules b.l0)
lexical_form b None None none flat = ((λ some. omega (arith, some, none)), λ some. absurd (omega (arith, some, none)))
lexical_form b None (Some f) none flat = absurd flat
lexical_form b (Some g) None is flat = absurd flat
lexical_form b (Some g) (Some f) (same, some, l) (form, few) = ((some, subst (λ h. IsFlattened h f) same form), λ _. subst HasFewRules same few)

pub are_parts : (b : Built) (g : Grammar) (c : Option Grammar) (flat : FlatGrammar) (lexical : Option FlatGrammar) (abilities : List Ability) → g ≡ b.g1 → IsChecked b.g1 → IsCheckedLexical b.l0 c
    → IsFlattened g flat → HasFewRules g → IsFlatLexical c lexical → AreAbilities g abilities → AreParts b flat lexical abilities
are_parts b g c flat lexical abilities same structural checked form few lexical_flat able =
    let both = lexical_form b c lexical checked lexical_flat in record {
      accepted = record { checked = are_checked b c structural checked; structural = subst HasFewRules same few; lexical = both.1 };
      flattened = subst (λ h. IsFlattened h flat) same form;
      lexical_form = both.0;
      are_abilities = subst (λ h. AreAbilities h abilities) same able;
    }
