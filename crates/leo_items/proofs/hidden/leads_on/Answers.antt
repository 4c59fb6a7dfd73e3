use Rattle.std.proofs.Common.{◌≡◌, Bool, true, false, refl, sym, ◌∙◌}
use Rattle.leo_items.proofs.hidden.leads_on.Goals as goal

is_false : (b : Bool) → ¬ (b ≡ true) → b ≡ false
is_false true h = absurd (h refl)
is_false false h = refl

pub returns-then-from-item : goal.returns-then-from-item
returns-then-from-item c none le = c.single_step.ensures.none (sym c.is_some.ensures ∙ is_false c.is_some.result none)
