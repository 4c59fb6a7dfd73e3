-- Grammars that are accepted have no fault, and none has two.
use Rattle.grammar_laws.proofs.Checks.{checks_decide}
use Rattle.grammar_laws.proofs.Flats.{rules_are_counted}
use Rattle.grammar_check.proofs.Uniqueness.{not_refused, one_refusal}
use Rattle.reading_model.proofs.Accepting.{CheckLaws, no_fault, one_fault}
use Rattle.reading_model.specs.Laws.{AcceptedHaveNoFault, GrammarFaultIsOne}

check_laws : CheckLaws
check_laws = record { decided = checks_decide; not_both = not_refused; one_refusal = one_refusal; counted = rules_are_counted }

pub accepted_have_no_fault : AcceptedHaveNoFault
accepted_have_no_fault = no_fault check_laws

pub grammar_fault_is_one : GrammarFaultIsOne
grammar_fault_is_one = one_fault check_laws
