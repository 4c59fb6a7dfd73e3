use Rattle.std.proofs.Common.{true≢false, sym, ◌∙◌, refl}
use Rattle.std.proofs.lemmas.Bool.{false≢true}
use Rattle.first_walk.proofs.place.is_alone.Goals as goal

pub returns-then-nothing : goal.returns-then-nothing
returns-then-nothing c = (λ t. absurd (false≢true t), λ (a, b, e). absurd (true≢false (sym c.if-nothing.true ∙ a)))

pub returns-then-has_other_whole : goal.returns-then-has_other_whole
returns-then-has_other_whole c = (λ t. absurd (false≢true t), λ (a, b, e). absurd (b (c.has_other_whole.ensures.0 c.if-has_other_whole.true)))

pub returns-then-found : goal.returns-then-found
returns-then-found c = (λ t. absurd (false≢true t), λ (a, b, e). absurd (e (c.requires.other.0 c.if-found.true)))

pub returns : goal.returns
returns c = (
  λ t. (
    c.if-nothing.false,
    λ h. true≢false (sym (c.has_other_whole.ensures.1 h) ∙ c.if-has_other_whole.false),
    λ h. true≢false (sym (c.requires.other.1 h) ∙ c.if-found.false),
  ),
  λ h. refl,
)
