-- A reading that is told by equal parts.
use Rattle.std.proofs.Common.{◌≡◌, ℕ, List, sym, subst}
use Rattle.grammar_core.specs.declared.steps.Span.{Span}
use Rattle.language_model.specs.Building.{Built}
use Rattle.earley_sets.specs.Recognizer.{Recognizer}
use Rattle.scanless.specs.declared.reading.Ending.{Ending}
use Rattle.scanless.specs.Reading.{IsReadingOfWith}

pub as_ended : (b : Built) (given text : List ℕ) (recce recce' : Recognizer) (spans spans' : List Span) (ending ending' : Ending) → (recce' ≡ recce) × (spans' ≡ spans) × (ending' ≡ ending) →
    IsReadingOfWith b given text recce spans ending → IsReadingOfWith b given text recce' spans' ending'
as_ended b given text recce recce' spans spans' ending ending' same is =
    subst (λ r. IsReadingOfWith b given text r spans' ending') (sym same.0)
    (subst (λ l. IsReadingOfWith b given text recce l ending') (sym same.1)
    (subst (λ e. IsReadingOfWith b given text recce spans e) (sym same.2) is))
