-- What a check tells is a refusal of the definition, and its text that refusal's.
use Rattle.std.proofs.Common.{◌≡◌, refl, sym, ap}
use Rattle.grammar_model.specs.Grammar.{Grammar}
use Rattle.grammar_model.specs.Checked as model
use Rattle.grammar_model.specs.Refusals.{refusal_text}
use Rattle.grammar_check.specs.declared.refusal.GrammarRefusal.{GrammarRefusal}
use Rattle.grammar_check.specs.declared.refusal.GrammarRefusal.TheVariants.{NoRules, NoStart, StartNotLhs, SequenceLhs, Duplicate, CountedNullable, UnproductiveStart, Cyclic, NoMemory}
use Rattle.grammar_check.specs.Told.{slots_with}
use Rattle.grammar_check.specs.Message as check
use Rattle.grammar_check.specs.Message.{IsOf}
use Rattle.grammar_check.specs.Refused.{IsTold}
use Rattle.grammar_check.specs.Said.{Says, IsSaid}

pub said : (g : Grammar) (r : GrammarRefusal) → IsTold g r → IsOf g r → (r ≡ NoMemory → ⊥) → IsSaid g r (model.Refuses g)
said g NoRules told of other = record { of = of; told = model.NoRules; says = refl; fault = told }
said g NoStart told of other = record { of = of; told = model.NoStart; says = refl; fault = told }
said g (StartNotLhs symbol) told of other = record { of = of; told = model.StartNotLhs symbol; says = refl; fault = told }
said g (SequenceLhs symbol) told of other = record { of = of; told = model.SequenceLhs symbol; says = refl; fault = told }
said g (Duplicate rule) told of other = record { of = of; told = model.Duplicate rule; says = refl; fault = told }
said g (CountedNullable rule) told of other = record { of = of; told = model.CountedNullable rule; says = refl; fault = told }
said g (UnproductiveStart symbol) told of other = record { of = of; told = model.UnproductiveStart symbol; says = refl; fault = told }
said g (Cyclic cycle) told of other = record { of = of; told = model.Cyclic (slots_with cycle.items); says = refl; fault = told }
said g NoMemory told of other = absurd (other refl)

-- the text of what a check tells is that of the refusal that it says
pub refusal_told : (g : Grammar) (r : GrammarRefusal) (m : model.Refusal) → Says r m → check.refusal_text g r ≡ refusal_text g m
refusal_told g NoRules m says = ap (refusal_text g) (sym says)
refusal_told g NoStart m says = ap (refusal_text g) (sym says)
refusal_told g (StartNotLhs symbol) m says = ap (refusal_text g) (sym says)
refusal_told g (SequenceLhs symbol) m says = ap (refusal_text g) (sym says)
refusal_told g (Duplicate rule) m says = ap (refusal_text g) (sym says)
refusal_told g (CountedNullable rule) m says = ap (refusal_text g) (sym says)
refusal_told g (UnproductiveStart symbol) m says = ap (refusal_text g) (sym says)
refusal_told g (Cyclic cycle) m says = ap (refusal_text g) (sym says)
refusal_told g NoMemory m says = absurd says
